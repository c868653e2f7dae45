-- Lists that pass through the layers, one setting each: every shortest list does. Over any lawful meaning.
use Rattle.std.proofs.Common.{◌≡◌, ℕ, zero, suc, ◌+◌, ◌≤◌, List, [], ◌∷◌, reverse, length, sym, subst, ⊎_elim, arith}
use mathlib.Core.List.{reverse_aux, reverse-cons}
use Rattle.std.proofs.lemmas.Bool.{cases_Bool}
use Rattle.plant.specs.Meaning.{Meaning, Steps, Leads}
use Rattle.plant.specs.Laws.{Lawful}
use Rattle.legs.specs.Layers.{Leg}
use Rattle.legs.specs.Laws.{Holds, ReachedIn}
use Rattle.legs.proofs.Lists.{leads_append, one_leads}
use Rattle.legs.proofs.Layers.{layer_first, first_holds, met_by, met_layer, next_holds}
use Rattle.legs.proofs.Reach.{layer_reached, reach_from}

module _ (m : Meaning) (g : Leg) where
  -- the list, kept with the last operation first, goes from the start to u, its setting after i operations in layer i
  abbrev pub Through : List ℕ → ℕ → Type 0
  Through [] u = Holds m g zero u
  Through (o ∷ os) u = (v : ℕ) × Through os v × Steps m v o u × Holds m g (suc (length os)) u

  pub through_holds : (os : List ℕ) (u : ℕ) → Through os u → Holds m g (length os) u
  through_holds [] u h = h
  through_holds (o ∷ os) u h = h.3

  pub through_leads : (os : List ℕ) (u : ℕ) → Through os u → Leads m g.start (reverse os) u
  through_leads [] u h = (layer_first m g u h).0
  through_leads (o ∷ os) u h =
      subst (λ l. Leads m g.start l u) (sym (reverse-cons o os))
      (leads_append m (reverse os) (o ∷ []) g.start h.0 u (through_leads os h.0 h.1) (one_leads m h.0 o u h.2))

  module _ (lawful : Lawful m) (n : ℕ) (within : n ≤ g.bound) (least : (k : ℕ) → ReachedIn m g k → n ≤ k) where
    -- what lies on a list of the least length is not met before its turn
    on_the_way :
        (os ps : List ℕ) (o v u : ℕ) → Through ps v → Steps m v o u → Leads m u os g.target → suc (length ps) + length os ≡ n → Holds m g (suc (length ps)) u
    on_the_way os ps o v u h s l e =
        ⊎_elim
        (λ t.
        let r = met_layer m g (length ps) u t in
        let q = reach_from m g lawful os r.0 u r.2 l (omega (arith, r.1)) in
        let low = least q.0 (layer_reached m g q.0 g.target q.2) in
        absurd (omega (arith, r.1, q.1, low)))
        (λ f. let est = lawful.estimate_least os u g.target l in
        next_holds m g lawful (length ps) u (v, o, through_holds ps v h, s) f (omega (arith, est)))
        (cases_Bool (met_by m g (length ps) u))

    through_on : (os ps : List ℕ) (v : ℕ) → Through ps v → Leads m v os g.target → length ps + length os ≡ n → Through (reverse_aux os ps) g.target
    through_on [] ps v h l e = subst (Through ps) l h
    through_on (o ∷ os) ps v h l e =
        through_on os (o ∷ ps) l.0 (v, h, l.1, on_the_way os ps o v l.0 h l.1 l.2 (omega arith)) l.2 (omega arith)

    -- a list of the least length passes through the layers
    pub shortest_through : (os : List ℕ) → length os ≡ n → Leads m g.start os g.target → Through (reverse os) g.target
    shortest_through os e l =
        let est = lawful.estimate_least os g.start g.target l in
        through_on os [] g.start (first_holds m g (omega (arith, est))) l (omega arith)
