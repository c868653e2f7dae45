-- When a measure and a plan give each of their answers. Over any lawful meaning.
use Rattle.std.proofs.Common.{◌≡◌, ℕ, ◌<◌, ◌≤◌, ◌↔◌, List, [], ◌∷◌, length, Some, None, Option, sym, refl, ap, ◌∙◌, subst, inl, inr, ⊎_elim, arith}
use Rattle.std.proofs.lemmas.Bool.{cases_lt}
use Rattle.plant.specs.Meaning.{Meaning}
use Rattle.plant.specs.Laws.{Lawful}
use Rattle.legs.specs.Layers.{Leg, In}
use Rattle.legs.specs.Legs.{leg_length, expanded, need}
use Rattle.legs.specs.Lists.{Distance, Earliest, earliest}
use Rattle.legs.specs.Plans.{plan_legs, plan_list, listed, count, most_need}
use Rattle.legs.specs.PlanLaws.{Unreached, Measures, Plans}
use Rattle.legs.proofs.Ends.{least, none_within}
use Rattle.legs.proofs.Earliest.{some_none, found_earliest, earliest_found, linked_found}
use Rattle.legs.proofs.Answers.{answers}

-- the largest need is that of some leg, and no leg needs more
module _ (m : Meaning) where
  pub most_needed : (records : ℕ) (gs : List Leg) → (records < most_need m gs) ↔ ((l : Leg) × In l gs × (records < need m l))
  most_needed records gs = (λ h. some_needs gs h, λ h. omega (arith, h.2, all_need gs h.0 h.1))
    where
      some_needs : (gs : List Leg) → records < most_need m gs → (l : Leg) × In l gs × (records < need m l)
      some_needs [] h = absurd (omega arith)
      some_needs (g ∷ gs) h =
          ⊎_elim (λ b. (g, inl refl, b)) (λ b. let r = some_needs gs (omega arith) in (r.0, inr r.1, r.2)) (cases_lt records (need m g))

      all_need : (gs : List Leg) (l : Leg) → In l gs → need m l ≤ most_need m gs
      all_need [] l i = absurd i
      all_need (g ∷ gs) l (inl e) = subst (λ x. need m x ≤ most_need m (g ∷ gs)) e (omega arith)
      all_need (g ∷ gs) l (inr i) = omega (arith, all_need gs l i)

  pub most_enough : (records : ℕ) (gs : List Leg) → (most_need m gs ≤ records) ↔ ((l : Leg) → In l gs → need m l ≤ records)
  most_enough records gs = (
    λ h l i. ⊎_elim (λ b. absurd (omega (arith, (most_needed records gs).1 (l, i, b)))) (λ b. b) (cases_lt records (need m l)),
    λ h. ⊎_elim (λ b. absurd (let x = (most_needed records gs).0 b in omega (arith, x.2, h x.0 x.1))) (λ b. b) (cases_lt records (most_need m gs)),
  )

  module _ (lawful : Lawful m) where
    list_none : (g : Leg) → (plan_list m g ≡ None) ↔ Unreached m g
    list_none g = (λ e. forth (leg_length m g) refl e, λ h. ap (listed m g.start g.target) ((none_within m g lawful).1 h))
      where
        forth : (x : Option ℕ) → leg_length m g ≡ x → listed m g.start g.target x ≡ None → Unreached m g
        forth None x e = (none_within m g lawful).0 x
        forth (Some n) x e =
            let f = linked_found m lawful n g.start g.target ((least m g lawful n).0 x).1 in
            absurd (some_none (earliest m n g.start g.target) f.0 f.1 e)

    -- the earliest list of the least length, within the bound
    abbrev Best : Leg → List ℕ → Type 0
    Best g os = (length os ≤ g.bound) × Distance m (length os) g.start g.target × Earliest m (length os) g.start g.target os

    list_best : (g : Leg) (os : List ℕ) → (plan_list m g ≡ Some os) ↔ Best g os
    list_best g os = (λ e. forth (leg_length m g) refl e, λ h. back h)
      where
        forth : (x : Option ℕ) → leg_length m g ≡ x → listed m g.start g.target x ≡ Some os → Best g os
        forth None x e = absurd (some_none (Some os) os refl (sym e))
        forth (Some n) x e =
            let l = (least m g lawful n).0 x in
            let first = found_earliest m lawful n g.start g.target os e in
            subst (λ k. (k ≤ g.bound) × Distance m k g.start g.target × Earliest m k g.start g.target os) (sym first.long) (l.0, (l.1, l.2), first)

        back : Best g os → plan_list m g ≡ Some os
        back h =
            ap (listed m g.start g.target) ((least m g lawful (length os)).1 (h.0, h.1.0, h.1.1))
            ∙ earliest_found m lawful (length os) g.start g.target os h.2

    pub plans : Plans m
    plans =
        answers m (λ g. most_need m (plan_legs m g)) (plan_list m) (λ g. count m (plan_legs m g))
        (λ g records. (l : Leg) → In l (plan_legs m g) → need m l ≤ records) (λ g records. (l : Leg) × In l (plan_legs m g) × (records < need m l)) Best
        (λ g records. most_enough records (plan_legs m g)) (λ g records. most_needed records (plan_legs m g)) list_none list_best

    pub measures : Measures m
    measures =
        answers m (need m) (leg_length m) (expanded m)
        (λ g records. need m g ≤ records) (λ g records. records < need m g) (λ g n. (n ≤ g.bound) × Distance m n g.start g.target)
        (λ g records. (λ h. h, λ h. h)) (λ g records. (λ h. h, λ h. h)) (λ g. none_within m g lawful)
        (λ g n. (λ e. let l = (least m g lawful n).0 e in (l.0, (l.1, l.2)), λ h. (least m g lawful n).1 (h.0, h.1.0, h.1.1)))
