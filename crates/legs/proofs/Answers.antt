-- When a search gives each of its answers, by what is known of its tests and of what it finds. Assumes nothing.
use Rattle.std.proofs.Common.{◌≡◌, ℕ, ◌<◌, ◌≤◌, Bool, true, false, ltb, leb, ◌⊎◌, ◌↔◌, Some, None, Ok, Err, Option, Result, refl, ap, ◌∙◌, subst, inl, inr, ⊎_elim}
use Rattle.std.proofs.lemmas.Bool.{leb-true, leb-false, ltb-true, ltb-false, le-leb, lt-leb, lt-ltb, le-ltb, or_cases, or_left, or_right, or_parts, or_from}
use Rattle.plant.specs.Meaning.{Meaning}
use Rattle.plant.specs.declared.refusal.Refusal.{Refusal}
use Rattle.plant.specs.declared.refusal.Refusal.TheVariants.{NoSuchOperation, TaggedAlready, Untagged, NoSuchSetting, Bound, Overfull, OutOfReach, NoList, WrongOperation}
use Rattle.legs.specs.Layers.{Leg}
use Rattle.legs.specs.Answers.{Counted, answer, outside, too_high}
use Rattle.legs.specs.PlanLaws.{InRange, Unreached, Answers}

module _ {A : Type 0} (far high full : Bool) (x : Option A) (n : ℕ) where
  -- what each answer says of what was looked at
  abbrev Says : Result (Counted A) Refusal → Type 0
  Says (Ok a) = (far ≡ false) × (high ≡ false) × (full ≡ false) × (x ≡ Some a.found) × (n ≡ a.count)
  Says (Err NoSuchSetting) = far ≡ true
  Says (Err Bound) = (far ≡ false) × (high ≡ true)
  Says (Err Overfull) = (far ≡ false) × (high ≡ false) × (full ≡ true)
  Says (Err OutOfReach) = (far ≡ false) × (high ≡ false) × (full ≡ false) × (x ≡ None)
  Says (Err NoSuchOperation) = ⊥
  Says (Err TaggedAlready) = ⊥
  Says (Err Untagged) = ⊥
  Says (Err NoList) = ⊥
  Says (Err WrongOperation) = ⊥

  -- where that is so, the answer is that one
  said : (r : Result (Counted A) Refusal) → Says r → answer far high full x n ≡ r
  said (Ok a) h =
      ap (λ b. answer b high full x n) h.0 ∙ ap (λ b. answer false b full x n) h.1 ∙ ap (λ b. answer false false b x n) h.2
      ∙ ap (λ y. answer false false false y n) h.3 ∙ ap (λ c. Ok (record { found = a.found; count = c })) h.4
  said (Err NoSuchSetting) h = ap (λ b. answer b high full x n) h
  said (Err Bound) h = ap (λ b. answer b high full x n) h.0 ∙ ap (λ b. answer false b full x n) h.1
  said (Err Overfull) h =
      ap (λ b. answer b high full x n) h.0 ∙ ap (λ b. answer false b full x n) h.1 ∙ ap (λ b. answer false false b x n) h.2
  said (Err OutOfReach) h =
      ap (λ b. answer b high full x n) h.0 ∙ ap (λ b. answer false b full x n) h.1 ∙ ap (λ b. answer false false b x n) h.2
      ∙ ap (λ y. answer false false false y n) h.3
  said (Err NoSuchOperation) h = absurd h
  said (Err TaggedAlready) h = absurd h
  said (Err Untagged) h = absurd h
  said (Err NoList) h = absurd h
  said (Err WrongOperation) h = absurd h

says : {A : Type 0} (far high full : Bool) (x : Option A) (n : ℕ) → Says far high full x n (answer far high full x n)
says true high full x n = refl
says false true full x n = (refl, refl)
says false false true x n = (refl, refl, refl)
says false false false None n = (refl, refl, refl, refl)
says false false false (Some a) n = (refl, refl, refl, refl, refl)

module _ (m : Meaning) (g : Leg) where
  outside_true : (outside m g ≡ true) ↔ ((m.settings ≤ g.start) ⊎ (m.settings ≤ g.target))
  outside_true = (
    λ e. ⊎_elim (λ x. inl (leb-true _ _ x)) (λ x. inr (leb-true _ _ x)) (or_cases (leb m.settings g.start) (leb m.settings g.target) e),
    λ h. ⊎_elim (λ x. or_left _ _ (le-leb m.settings g.start x)) (λ x. or_right (leb m.settings g.start) _ (le-leb m.settings g.target x)) h,
  )

  outside_false : (outside m g ≡ false) ↔ ((g.start < m.settings) × (g.target < m.settings))
  outside_false = (
    λ e. let p = or_parts (leb m.settings g.start) (leb m.settings g.target) e in (leb-false _ _ p.0, leb-false _ _ p.1),
    λ h. or_from _ _ (lt-leb m.settings g.start h.0) (lt-leb m.settings g.target h.1),
  )

  in_range : outside m g ≡ false → too_high g ≡ false → InRange m g
  in_range a b = let p = outside_false.0 a in (p.0, p.1, ltb-false 255 g.bound b)

  range_outside : InRange m g → outside m g ≡ false
  range_outside r = outside_false.1 (r.0, r.1)

  range_high : InRange m g → too_high g ≡ false
  range_high r = le-ltb 255 g.bound r.2

-- a search that looks at a need and finds an answer, of which the rest is known
module _ {A : Type 0} (m : Meaning) (most : Leg → ℕ) (find : Leg → Option A) (number : Leg → ℕ)
    (Roomy Crowded : Leg → ℕ → Type 0) (Right : Leg → A → Type 0)
    (roomy : (g : Leg) (records : ℕ) → (most g ≤ records) ↔ Roomy g records)
    (crowded : (g : Leg) (records : ℕ) → (records < most g) ↔ Crowded g records)
    (none : (g : Leg) → (find g ≡ None) ↔ Unreached m g)
    (some : (g : Leg) (a : A) → (find g ≡ Some a) ↔ Right g a) where
  abbrev asked : Leg → ℕ → Result (Counted A) Refusal
  asked g records = answer (outside m g) (too_high g) (ltb records (most g)) (find g) (number g)

  looked :
      (g : Leg) (records : ℕ) (r : Result (Counted A) Refusal) → asked g records ≡ r
      → Says (outside m g) (too_high g) (ltb records (most g)) (find g) (number g) r
  looked g records r e =
      subst (Says (outside m g) (too_high g) (ltb records (most g)) (find g) (number g)) e
      (says (outside m g) (too_high g) (ltb records (most g)) (find g) (number g))

  gives :
      (g : Leg) (records : ℕ) (r : Result (Counted A) Refusal)
      → Says (outside m g) (too_high g) (ltb records (most g)) (find g) (number g) r → asked g records ≡ r
  gives g records r h = said (outside m g) (too_high g) (ltb records (most g)) (find g) (number g) r h

  pub answers : Answers m (λ g records. asked g records) Roomy Crowded (λ g a. Right g a.found × (number g ≡ a.count))
  answers =
      record {
        no_such_setting = λ g records. (λ e. (outside_true m g).0 (looked g records (Err NoSuchSetting) e), λ h. gives g records (Err NoSuchSetting) ((outside_true m g).1 h));
        bound = λ g records. (
          λ e. let h = looked g records (Err Bound) e in let p = (outside_false m g).0 h.0 in (p.0, p.1, ltb-true 255 g.bound h.1),
          λ h. gives g records (Err Bound) ((outside_false m g).1 (h.0, h.1), lt-ltb 255 g.bound h.2),
        );
        overfull = λ g records. (
          λ e. let h = looked g records (Err Overfull) e in (in_range m g h.0 h.1, (crowded g records).0 (ltb-true records (most g) h.2)),
          λ h. gives g records (Err Overfull) (range_outside m g h.0, range_high m g h.0, lt-ltb records (most g) ((crowded g records).1 h.1)),
        );
        out_of_reach = λ g records. (
          λ e. let h = looked g records (Err OutOfReach) e in (in_range m g h.0 h.1, (roomy g records).0 (ltb-false records (most g) h.2), (none g).0 h.3),
          λ h. gives g records (Err OutOfReach) (range_outside m g h.0, range_high m g h.0, le-ltb records (most g) ((roomy g records).1 h.1), (none g).1 h.2),
        );
        accepted = λ g records a. (
          λ e. let h = looked g records (Ok a) e in (in_range m g h.0 h.1, (roomy g records).0 (ltb-false records (most g) h.2), ((some g a.found).0 h.3, h.4)),
          λ h. gives g records (Ok a) (range_outside m g h.0, range_high m g h.0, le-ltb records (most g) ((roomy g records).1 h.1), (some g a.found).1 h.2.0, h.2.1),
        );
      }
