-- Where a leg ends, and that its length is the least length of a list within the bound. Over any lawful meaning.
use Rattle.std.proofs.Common.{◌≡◌, ℕ, zero, suc, ◌+◌, ◌<◌, ◌≤◌, Bool, true, false, cond, ◌↔◌, Some, None, refl, ap, ◌∙◌, subst, ⊎_elim, arith}
use Rattle.std.proofs.lemmas.Bool.{cases_Bool, cases_lt, cases_order, cond-true, cond-false, eq-eqb, eqb-true, or_cases, or_left, or_right, both_ways}
use Rattle.plant.specs.Meaning.{Meaning}
use Rattle.plant.specs.Laws.{Lawful}
use Rattle.legs.specs.Layers.{Leg, has, settings}
use Rattle.legs.specs.Legs.{empty, ends, end_from, end, leg_length}
use Rattle.legs.specs.Laws.{Holds, ReachedIn}
use Rattle.legs.proofs.Layers.{apart}
use Rattle.legs.proofs.Reach.{layer_reached, none_behind, reach}

module _ (m : Meaning) (g : Leg) where
  -- the first depth from d on at which the leg ends
  abbrev FirstEnd : ℕ → ℕ → Type 0
  FirstEnd d e = (d ≤ e) × (e ≤ g.bound) × (ends m g e ≡ true) × ((i : ℕ) → d ≤ i → i < e → ends m g i ≡ false)

  ends_at_bound : ends m g g.bound ≡ true
  ends_at_bound = or_right (has (settings m g g.bound) g.target) _ (or_right (empty (settings m g g.bound)) _ (eq-eqb g.bound g.bound refl))

  first_end : (k d : ℕ) → k + d ≡ g.bound → FirstEnd d (end_from m g k d)
  first_end zero d e =
      let at : g.bound ≡ d = omega arith in
      (omega arith, omega arith, subst (λ i. ends m g i ≡ true) at ends_at_bound, λ i l b. absurd (omega arith))
  first_end (suc k) d e = split (ends m g d) refl (first_end k (suc d) (omega arith))
    where
      split : (b : Bool) → ends m g d ≡ b → FirstEnd (suc d) (end_from m g k (suc d)) → FirstEnd d (elim b [ true ↦ d | false ↦ end_from m g k (suc d) ])
      split true t r = (omega arith, omega arith, t, λ i l b. absurd (omega arith))
      split false f r = (
        omega (arith, r.0),
        r.1,
        r.2,
        λ i l b. ⊎_elim (λ t. r.3 i t b) (λ t. let at : d ≡ i = omega arith in subst (λ j. ends m g j ≡ false) at f) (cases_lt d i),
      )

  the_end : FirstEnd 0 (end m g)
  the_end = first_end g.bound 0 (omega arith)

  pub end_within : end m g ≤ g.bound
  end_within = the_end.1

  pub before_end : (i : ℕ) → i < end m g → ends m g i ≡ false
  before_end i l = the_end.3 i (omega arith) l

  pub end_ends : ends m g (end m g) ≡ true
  end_ends = the_end.2

  -- the end is the first depth at which the leg ends
  pub end_is : (d : ℕ) → ends m g d ≡ true → ((i : ℕ) → i < d → ends m g i ≡ false) → end m g ≡ d
  end_is d t before =
      ⊎_elim (λ e. e)
      (⊎_elim (λ b. absurd (both_ways (ends m g (end m g)) (before (end m g) b) end_ends)) (λ b. absurd (both_ways (ends m g d) (before_end d b) t)))
      (cases_order (end m g) d)

  pub below_end : (d : ℕ) → ((i : ℕ) → i ≤ d → ends m g i ≡ false) → d < end m g
  below_end d before = ⊎_elim (λ b. b) (λ b. absurd (both_ways (ends m g (end m g)) (before (end m g) b) end_ends)) (cases_lt d (end m g))

  -- the layer that holds the target is the last
  pub end_holding : (j : ℕ) → j ≤ g.bound → Holds m g j g.target → end m g ≡ j
  end_holding j l h = ⊎_elim (λ e. e) (⊎_elim (λ b. absurd (early b)) (λ b. absurd (late b))) (cases_order (end m g) j)
    where
      late : j < end m g → ⊥
      late b = both_ways (ends m g j) (before_end j b) (or_left _ _ h)

      early : end m g < j → ⊥
      early b =
          ⊎_elim
          (λ (t : Holds m g (end m g) g.target). omega (arith, apart m g (end m g) j g.target t h))
          (λ t. ⊎_elim (λ n. none_behind m g (end m g) j g.target n (omega arith) h) (λ n. omega (arith, eqb-true (end m g) g.bound n)) (or_cases _ _ t))
          (or_cases _ _ end_ends)

  pub length_holding : (j : ℕ) → j ≤ g.bound → Holds m g j g.target → leg_length m g ≡ Some j
  length_holding j l h =
      let e = end_holding j l h in
      cond-true _ (Some (end m g)) None (ap (λ i. has (settings m g i) g.target) e ∙ h) ∙ ap (λ i. Some i) e

  pub length_holds : (n : ℕ) → leg_length m g ≡ Some n → (n ≤ g.bound) × (end m g ≡ n) × Holds m g n g.target
  length_holds n e = from (has (settings m g (end m g)) g.target) refl e
    where
      from : (b : Bool) → has (settings m g (end m g)) g.target ≡ b → cond b (Some (end m g)) None ≡ Some n → (n ≤ g.bound) × (end m g ≡ n) × Holds m g n g.target
      from true t s =
          let at : end m g ≡ n = cc in
          (subst (λ i. i ≤ g.bound) at end_within, at, subst (λ i. Holds m g i g.target) at t)
      from false f s = absurd (let z : ◌≡◌ {A = ℕ} 0 1 = cc in omega arith)

  pub none_holds : leg_length m g ≡ None → (j : ℕ) → j ≤ g.bound → Holds m g j g.target → ⊥
  none_holds e j l h = let s = length_holding j l h in let z : ◌≡◌ {A = ℕ} 0 1 = cc in omega arith

  module _ (lawful : Lawful m) where
    pub least : (n : ℕ) → (leg_length m g ≡ Some n) ↔ ((n ≤ g.bound) × ReachedIn m g n × ((k : ℕ) → ReachedIn m g k → n ≤ k))
    least n = (forth, back)
      where
        forth : leg_length m g ≡ Some n → (n ≤ g.bound) × ReachedIn m g n × ((k : ℕ) → ReachedIn m g k → n ≤ k)
        forth e =
            let p = length_holds n e in (
              p.0,
              layer_reached m g n g.target p.2,
              λ k r. ⊎_elim
                  (λ b. absurd (let q = reach m g lawful k (omega (arith, p.0)) r in omega (arith, q.1, b, apart m g n q.0 g.target p.2 q.2)))
                  (λ b. b) (cases_lt k n),
            )

        back : (n ≤ g.bound) × ReachedIn m g n × ((k : ℕ) → ReachedIn m g k → n ≤ k) → leg_length m g ≡ Some n
        back p =
            let q = reach m g lawful n p.0 p.1 in
            let low = p.2 q.0 (layer_reached m g q.0 g.target q.2) in
            let at : q.0 ≡ n = omega (arith, q.1, low) in
            length_holding n p.0 (subst (λ i. Holds m g i g.target) at q.2)

    pub none_within : (leg_length m g ≡ None) ↔ ((k : ℕ) → k ≤ g.bound → ReachedIn m g k → ⊥)
    none_within = (
      λ e k l r. let q = reach m g lawful k l r in none_holds e q.0 (omega (arith, q.1)) q.2,
      λ never. ⊎_elim (λ t. absurd (never (end m g) end_within (layer_reached m g (end m g) g.target t))) (λ f. cond-false _ (Some (end m g)) None f)
          (cases_Bool (has (settings m g (end m g)) g.target)),
    )
