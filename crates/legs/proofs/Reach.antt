-- What a layer holds is reached by a list as long as its depth, and a list within the bound ends in a layer. Over any lawful meaning.
use Rattle.std.proofs.Common.{◌≡◌, ℕ, zero, suc, ◌+◌, ◌≤◌, true, List, [], ◌∷◌, ◌++◌, length, refl, ap, ◌∙◌, subst, ⊎_elim, add-one, arith}
use Rattle.std.proofs.lemmas.List.{length_push}
use Rattle.std.proofs.lemmas.Bool.{cases_lt, false≢true}
use Rattle.plant.specs.Meaning.{Meaning, Leads}
use Rattle.plant.specs.Laws.{Lawful}
use Rattle.legs.specs.Layers.{Leg, has, settings}
use Rattle.legs.specs.Legs.{empty}
use Rattle.legs.specs.Laws.{Holds, ReachedIn}
use Rattle.legs.proofs.Lists.{leads_append, one_leads}
use Rattle.legs.proofs.Layers.{layer_first, layer_next, first_holds, beside_met}

module _ (m : Meaning) (g : Leg) where
  pub layer_reached : (d u : ℕ) → Holds m g d u → (os : List ℕ) × (length os ≡ d) × Leads m g.start os u
  layer_reached zero u h = ([], refl, (layer_first m g u h).0)
  layer_reached (suc d) u h =
      let b = (layer_next m g d u h).0 in
      let r = layer_reached d b.0 b.2 in (
        r.0 ++ b.1 ∷ [],
        length_push r.0 b.1 ∙ ap (λ n. n + 1) r.1 ∙ add-one d,
        leads_append m r.0 (b.1 ∷ []) g.start b.0 u r.2 (one_leads m b.0 b.1 u b.3),
      )

  -- behind an empty layer there are only empty ones
  pub some_before : (i j u : ℕ) → i ≤ j → Holds m g j u → (v : ℕ) × Holds m g i v
  some_before i zero u l h = let e : zero ≡ i = omega arith in (u, subst (λ d. Holds m g d u) e h)
  some_before i (suc j) u l h =
      let b = (layer_next m g j u h).0 in
      ⊎_elim
      (λ t. some_before i j b.0 (omega arith) b.2)
      (λ t. let e : suc j ≡ i = omega arith in (u, subst (λ d. Holds m g d u) e h))
      (cases_lt i (suc j))

  empty_none : (us : List ℕ) (v : ℕ) → empty us ≡ true → has us v ≡ true → ⊥
  empty_none [] v e h = false≢true h
  empty_none (u ∷ us) v e h = false≢true e

  pub none_behind : (i j u : ℕ) → empty (settings m g i) ≡ true → i ≤ j → Holds m g j u → ⊥
  none_behind i j u e l h = let r = some_before i j u l h in empty_none (settings m g i) r.0 e r.1

  module _ (lawful : Lawful m) where
    -- from a layer on, a list to the target within the bound ends in a layer
    pub reach_from :
        (os : List ℕ) (j s : ℕ) → Holds m g j s → Leads m s os g.target → j + length os ≤ g.bound
        → (i : ℕ) × (i ≤ j + length os) × Holds m g i g.target
    reach_from [] j s h l b = (j, omega arith, subst (λ u. Holds m g j u) l h)
    reach_from (o ∷ os) j s h l b =
        let est = lawful.estimate_least os l.0 g.target l.2 in
        let r = beside_met m g lawful j l.0 (s, o, h, l.1) (omega (arith, est)) in
        let n = reach_from os r.0 l.0 r.2 l.2 (omega (arith, r.1)) in
        (n.0, omega (arith, r.1, n.1), n.2)

    pub reach : (k : ℕ) → k ≤ g.bound → ReachedIn m g k → (i : ℕ) × (i ≤ k) × Holds m g i g.target
    reach k l r =
        let est = lawful.estimate_least r.0 g.start g.target r.2 in
        let n = reach_from r.0 0 g.start (first_holds m g (omega (arith, est, r.1))) r.2 (omega (arith, r.1)) in
        (n.0, omega (arith, n.1, r.1), n.2)
