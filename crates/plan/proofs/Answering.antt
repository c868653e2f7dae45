-- The answer of a plan from that of its first leg and of the fetch of its length. Over any lawful meaning.
use Rattle.std.proofs.Common.{◌≡◌, ℕ, ◌+◌, ◌-◌, ◌<◌, ◌≤◌, Bool, true, false, ◌||◌, ltb, List, ◌∷◌, ◌++◌, length, take, drop, replicate, Some, None, Ok, Option, sym, refl, ap, ◌∙◌, arith}
use borrow.Rule.Slice.PartMut.{post_of}
use Rattle.std.proofs.lemmas.List.{take_at, drop-replicate}
use Rattle.std.proofs.lemmas.Bool.{le-ltb, or_from, true≢false}
use Rattle.plant.specs.Meaning.{Meaning}
use Rattle.plant.specs.Laws.{Lawful}
use Rattle.legs.specs.Layers.{Leg}
use Rattle.legs.specs.Legs.{leg_length, expanded, need}
use Rattle.legs.specs.Lists.{Distance}
use Rattle.legs.specs.Answers.{Counted, answer, outside, too_high, measured}
use Rattle.legs.specs.Plans.{fetch_legs, fetched, plan_legs, count, most_need, listed, plan_list, planned}
use Rattle.legs.specs.PlanLaws.{InRange}
use Rattle.legs.proofs.Counts.{expanded_few}
use Rattle.legs.proofs.PlanLaws.{plans_lawful}
use Rattle.plan.specs.Fetched.{Fetched}
use Rattle.plan.specs.Planned.{Written}

-- what an accepted search says of its flags
pub record Accepted {A : Type 0} (o h f : Bool) (x : Option A) (p : ℕ) (a : Counted A) : Type 0 where
  pub inside : o ≡ false
  pub low : h ≡ false
  pub roomy : f ≡ false
  pub found : x ≡ Some a.found
  pub counted : p ≡ a.count

pub accepted : {A : Type 0} (o h f : Bool) (x : Option A) (p : ℕ) (a : Counted A) → answer o h f x p ≡ Ok a → Accepted o h f x p a
accepted true h f x p a e = let clash : ◌≡◌ {A = ℕ} 0 1 = cc in absurd (omega arith)
accepted false true f x p a e = let clash : ◌≡◌ {A = ℕ} 0 1 = cc in absurd (omega arith)
accepted false false true x p a e = let clash : ◌≡◌ {A = ℕ} 0 1 = cc in absurd (omega arith)
accepted false false false None p a e = let clash : ◌≡◌ {A = ℕ} 0 1 = cc in absurd (omega arith)
accepted {A} false false false (Some y) p a e =
    let b : Counted A = record { found = y; count = p } in
    let same : b ≡ a = cc in
    record { inside = refl; low = refl; roomy = refl; found = ap (λ c. Some c.found) same; counted = ap (λ c. c.count) same }

module _ (m : Meaning) (lawful : Lawful m) (g : Leg) (records : ℕ) where
  module _ (a : Counted ℕ) (found : measured m g records ≡ Ok a) where
    first : Accepted (outside m g) (too_high g) (ltb records (need m g)) (leg_length m g) (expanded m g) a
    first = accepted (outside m g) (too_high g) (ltb records (need m g)) (leg_length m g) (expanded m g) a found

    right : InRange m g × (need m g ≤ records) × (((a.found ≤ g.bound) × Distance m a.found g.start g.target) × (expanded m g ≡ a.count))
    right = ((plans_lawful m lawful).measures.accepted g records a).0 found

    pub searched : {X : Type 0} → (outside m g || too_high g) ≡ true → X
    searched e = absurd (true≢false (sym e ∙ or_from (outside m g) (too_high g) first.inside first.low))

    pub start_in : g.start < m.settings
    start_in = right.0.0

    pub target_in : g.target < m.settings
    target_in = right.0.1

    pub length_fits : a.found ≤ 255
    length_fits = omega (arith, right.2.0.0, right.0.2)

    pub least : Distance m a.found g.start g.target
    least = right.2.0.1

    pub first_few : a.count ≤ 16777216
    first_few = omega (arith, right.2.1, expanded_few m lawful g start_in, lawful.settings_most)

    in_range : planned m g records ≡ answer false false (ltb records (most_need m (plan_legs m g))) (plan_list m g) (count m (plan_legs m g))
    in_range =
        ap (λ b. answer b (too_high g) (ltb records (most_need m (plan_legs m g))) (plan_list m g) (count m (plan_legs m g))) first.inside
        ∙ ap (λ b. answer false b (ltb records (most_need m (plan_legs m g))) (plan_list m g) (count m (plan_legs m g))) first.low

    legs_are : plan_legs m g ≡ g ∷ fetch_legs m a.found g.start g.target
    legs_are = ap (λ x. g ∷ fetched m g.start g.target x) first.found

    -- the list of its length is fetched
    pub planned_found : (list : List ℕ) (c : ℕ) → Fetched m a.found g.start g.target records list (Some c) → planned m g records ≡ Ok (record { found = list; count = a.count + c })
    planned_found list c f =
        let enough : ltb records (most_need m (plan_legs m g)) ≡ false = le-ltb records (most_need m (plan_legs m g)) (omega (arith, ap (most_need m) legs_are, right.1, f.2)) in
        let number : count m (plan_legs m g) ≡ a.count + c = ap (count m) legs_are ∙ omega (arith, first.counted, f.1) in
        in_range ∙ ap (λ b. answer false false b (plan_list m g) (count m (plan_legs m g))) enough
        ∙ ap (λ x. answer false false false x (count m (plan_legs m g))) (ap (listed m g.start g.target) first.found ∙ f.0)
        ∙ ap (λ k. Ok (record { found = list; count = k })) number

-- a list written at the front of zeros
module _ (n : ℕ) (list place : List ℕ) (zeros : place ≡ replicate 255 0) (low : n ≤ 255) (long : length list ≡ n) where
  front_is : take n (list ++ post_of 0 (n - 0) place) ≡ list
  front_is = take_at list (post_of 0 (n - 0) place) n long

  pub list_in_front : list ≡ take n (list ++ post_of 0 (n - 0) place)
  list_in_front = sym front_is

  pub written : Written n (list ++ post_of 0 (n - 0) place)
  written =
      let less : 255 - (n - 0) ≡ 255 - n = omega arith in
      let behind : post_of 0 (n - 0) place ≡ replicate (255 - n) 0 = ap (drop (n - 0)) zeros ∙ drop-replicate (n - 0) 255 0 ∙ ap (λ k. replicate k 0) less in
      record { fits = low; zeros = ap (λ xs. xs ++ post_of 0 (n - 0) place) list_in_front ∙ ap (λ xs. take n (list ++ post_of 0 (n - 0) place) ++ xs) behind }
