-- What a layer holds, that layers are apart, and that three are enough to find every duplicate. Over any lawful meaning.
use Rattle.std.proofs.Common.{◌≡◌, ℕ, zero, suc, ◌+◌, ◌<◌, ◌≤◌, Bool, true, false, cond, ◌||◌, ◌⊎◌, ◌↔◌, [], ◌∷◌, map, sym, refl, ap, ◌∙◌, subst, inl, inr, ⊎_elim, arith}
use Rattle.std.proofs.lemmas.List.{map-id}
use Rattle.std.proofs.lemmas.Bool.{both_ways, leb-true, le-leb, or_cases, or_left, or_right, cases_Bool, cases_lt, cases_order, false≢true}
use Rattle.plant.specs.Meaning.{Meaning}
use Rattle.plant.specs.Laws.{Lawful}
use Rattle.legs.specs.Kinds.{plain}
use Rattle.legs.specs.Layers.{Leg, has, fits, arrivals, grown, settings}
use Rattle.legs.specs.Laws.{Holds, Beside}
use Rattle.legs.proofs.Members.{has_here, has_cases, has_append}
use Rattle.legs.proofs.Arrivals.{arrivals_step, step_arrivals}
use Rattle.legs.proofs.Kept.{kept_parts, kept_from}

module _ (m : Meaning) (g : Leg) where
  -- whether u is in one of the layers up to depth d
  abbrev pub met_by : ℕ → ℕ → Bool
  met_by d u = has (grown m plain g d).met u

  pub met_more : (d u : ℕ) → met_by (suc d) u ≡ (has (settings m g (suc d)) u || met_by d u)
  met_more d u =
      has_append (map (λ v. v) (settings m g (suc d))) (grown m plain g d).met u
      ∙ ap (λ l. has l u || met_by d u) (map-id (settings m g (suc d)))

  met_first : (u : ℕ) → met_by zero u ≡ has (settings m g zero) u
  met_first u = ap (λ l. has l u) (map-id (settings m g zero))

  pub met_layer : (d u : ℕ) → met_by d u ≡ true → (j : ℕ) × (j ≤ d) × Holds m g j u
  met_layer zero u h = (zero, omega arith, sym (met_first u) ∙ h)
  met_layer (suc d) u h =
      ⊎_elim
      (λ l. (suc d, omega arith, l))
      (λ l. let r = met_layer d u l in (r.0, omega (arith, r.1), r.2))
      (or_cases _ _ (sym (met_more d u) ∙ h))

  pub layer_met : (d j u : ℕ) → j ≤ d → Holds m g j u → met_by d u ≡ true
  layer_met zero j u l h = let e : j ≡ zero = omega arith in met_first u ∙ ap (λ i. has (settings m g i) u) (sym e) ∙ h
  layer_met (suc d) j u l h =
      met_more d u
      ∙ ⊎_elim
      (λ b. or_right (has (settings m g (suc d)) u) _ (layer_met d j u (omega arith) h))
      (λ b. let e : suc d ≡ j = omega arith in or_left _ (met_by d u) (ap (λ i. has (settings m g i) u) e ∙ h))
      (cases_lt j (suc d))

  -- the start alone is in layer 0
  begun : (b : Bool) (s u : ℕ) → has (cond b (s ∷ []) []) u ≡ true → (b ≡ true) × (s ≡ u)
  begun true s u h = ⊎_elim (λ e. (refl, e)) (λ l. absurd (false≢true l)) (has_cases s u [] h)
  begun false s u h = absurd (false≢true h)

  pub layer_first : (u : ℕ) → Holds m g zero u → (g.start ≡ u) × (m.estimate g.start g.target + 0 ≤ g.bound)
  layer_first u h = let r = begun (fits m g 0 g.start) g.start u h in (r.1, leb-true _ _ r.0)

  pub first_holds : m.estimate g.start g.target + 0 ≤ g.bound → Holds m g zero g.start
  first_holds l = ap (λ b. has (cond b (g.start ∷ []) []) g.start) (le-leb _ _ l) ∙ has_here g.start g.start [] refl

  pub layer_next : (d u : ℕ) → Holds m g (suc d) u → Beside m g d u × (met_by d u ≡ false) × (m.estimate u g.target + suc d ≤ g.bound)
  layer_next d u h =
      let p = kept_parts (fits m g (suc d)) (grown m plain g d).met (arrivals m plain (suc d) (settings m g d)) u h in
      (arrivals_step m (suc d) (settings m g d) u p.0, p.1, leb-true _ _ p.2)

  module _ (lawful : Lawful m) where
    pub next_holds : (d u : ℕ) → Beside m g d u → met_by d u ≡ false → m.estimate u g.target + suc d ≤ g.bound → Holds m g (suc d) u
    next_holds d u b n l =
        kept_from (fits m g (suc d)) (grown m plain g d).met (arrivals m plain (suc d) (settings m g d)) u
        (step_arrivals m (suc d) lawful (settings m g d) b.0 b.1 u b.2 b.3) n (le-leb _ _ l)

    pub layered : (d u : ℕ) → Holds m g (suc d) u ↔ (Beside m g d u × ((j : ℕ) → j ≤ d → Holds m g j u → ⊥) × (m.estimate u g.target + suc d ≤ g.bound))
    layered d u = (
      λ h. let p = layer_next d u h in (p.0, (λ j l i. both_ways (met_by d u) p.1 (layer_met d j u l i)), p.2),
      λ p. next_holds d u p.0
          (⊎_elim (λ t. let r = met_layer d u t in absurd (p.1 r.0 r.1 r.2)) (λ f. f) (cases_Bool (met_by d u)))
          p.2,
    )

  -- the estimate of what a layer holds, with its depth, is within the bound
  pub layer_fits : (d u : ℕ) → Holds m g d u → m.estimate u g.target + d ≤ g.bound
  layer_fits zero u h = let r = layer_first u h in subst (λ s. m.estimate s g.target + 0 ≤ g.bound) r.0 r.1
  layer_fits (suc d) u h = (layer_next d u h).2

  earlier_apart : (i j u : ℕ) → Holds m g i u → Holds m g j u → i < j → ⊥
  earlier_apart i zero u hi hj l = omega arith
  earlier_apart i (suc j) u hi hj l = both_ways (met_by j u) (layer_next j u hj).1 (layer_met j i u (omega arith) hi)

  pub apart : (i j u : ℕ) → Holds m g i u → Holds m g j u → i ≡ j
  apart i j u hi hj =
      ⊎_elim (λ e. e) (⊎_elim (λ l. absurd (earlier_apart i j u hi hj l)) (λ l. absurd (earlier_apart j i u hj hi l))) (cases_order i j)

  module _ (lawful : Lawful m) where
    -- what is one step from a layer is in one up to the next, if it fits there
    pub beside_met : (d u : ℕ) → Beside m g d u → m.estimate u g.target + suc d ≤ g.bound → (j : ℕ) × (j ≤ suc d) × Holds m g j u
    beside_met d u b l =
        ⊎_elim
        (λ t. let r = met_layer d u t in (r.0, omega (arith, r.1), r.2))
        (λ f. (suc d, omega arith, next_holds lawful d u b f l))
        (cases_Bool (met_by d u))

    pub near : (d j u : ℕ) → Beside m g d u → Holds m g j u → j ≤ d → (j ≡ d) ⊎ (suc j ≡ d)
    near d j u b h l = ⊎_elim (λ far. absurd (too_far far)) (λ close. which close) (cases_lt (suc j) d)
      where
        too_far : suc j < d → ⊥
        too_far far =
            let fit = layer_fits d b.0 b.2 in
            let r = beside_met j b.0 (u, m.reverse b.1, h, lawful.steps_back b.0 b.1 u b.3) (omega (arith, fit)) in
            let e = apart d r.0 b.0 b.2 r.2 in
            omega (arith, r.1, e)

        which : d ≤ suc j → (j ≡ d) ⊎ (suc j ≡ d)
        which close = ⊎_elim (λ t. inr (omega arith)) (λ t. inl (omega arith)) (cases_lt j d)
