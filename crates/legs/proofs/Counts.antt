-- What the legs of a fetch expand and need together, and that a plan's count is small. Over any lawful meaning.
use Rattle.std.proofs.Common.{◌≡◌, ℕ, zero, suc, ◌+◌, ◌-◌, ◌*◌, ◌/◌, ◌<◌, ◌≤◌, max, List, [], ◌∷◌, ◌++◌, take, Some, None, Option, refl, ap, ◌∙◌, ⊎_elim, mul-le-mul_right, add-mul, arith}
use Rattle.std.proofs.lemmas.Bool.{cases_lt}
use Rattle.plant.specs.Meaning.{Meaning}
use Rattle.plant.specs.Laws.{Lawful}
use Rattle.legs.specs.Layers.{Leg}
use Rattle.legs.specs.Legs.{leg_length, end, expanded, need}
use Rattle.legs.specs.Lists.{landing, after, earliest}
use Rattle.legs.specs.Plans.{part_way, halfway, fetch_leg, halved, fetch_legs, fetched, plan_legs, count, most_need}
use Rattle.legs.specs.PlanLaws.{InRange}
use Rattle.legs.proofs.Ends.{least}
use Rattle.legs.proofs.Few.{few}
use Rattle.legs.proofs.Fetch.{halved_more, halved_none, halves}

module _ (m : Meaning) where
  pub count_append : (gs hs : List Leg) → count m (gs ++ hs) ≡ count m gs + count m hs
  count_append [] hs = omega arith
  count_append (g ∷ gs) hs = omega (arith, count_append gs hs)

  pub most_need_append : (gs hs : List Leg) → most_need m (gs ++ hs) ≡ max (most_need m gs) (most_need m hs)
  most_need_append [] hs = omega arith
  most_need_append (g ∷ gs) hs = omega (arith, most_need_append gs hs)

  -- a fetch of two or more operations: its own leg, and its halves
  pub fetch_count :
      (n s t : ℕ) → 2 ≤ n
      → count m (fetch_legs m n s t)
      ≡ expanded m (fetch_leg n s t) + (count m (fetch_legs m (n / 2) s (halfway m n s t)) + count m (fetch_legs m (n - n / 2) (halfway m n s t) t))
  fetch_count n s t two =
      ap (count m) (halves m n s t two)
      ∙ ap (λ c. expanded m (fetch_leg n s t) + c) (count_append (fetch_legs m (n / 2) s (halfway m n s t)) (fetch_legs m (n - n / 2) (halfway m n s t) t))

  pub fetch_need :
      (n s t : ℕ) → 2 ≤ n
      → most_need m (fetch_legs m n s t)
      ≡ max (need m (fetch_leg n s t)) (max (most_need m (fetch_legs m (n / 2) s (halfway m n s t))) (most_need m (fetch_legs m (n - n / 2) (halfway m n s t) t)))
  fetch_need n s t two =
      ap (most_need m) (halves m n s t two)
      ∙ ap (λ c. max (need m (fetch_leg n s t)) c) (most_need_append (fetch_legs m (n / 2) s (halfway m n s t)) (fetch_legs m (n - n / 2) (halfway m n s t) t))

  module _ (lawful : Lawful m) where
    landing_below : (s o : ℕ) (x : Option ℕ) → m.step s o ≡ x → s < m.settings → landing s x < m.settings
    landing_below s o None e l = l
    landing_below s o (Some u) e l = lawful.step_within s o u e

    pub after_below : (os : List ℕ) (s : ℕ) → s < m.settings → after m s os < m.settings
    after_below [] s l = l
    after_below (o ∷ os) s l = after_below os (landing s (m.step s o)) (landing_below s o (m.step s o) refl l)

    pub halfway_below : (n s t : ℕ) → s < m.settings → halfway m n s t < m.settings
    halfway_below n s t l = found (earliest m n s t)
      where
        found : (x : Option (List ℕ)) → part_way m (n / 2) s x < m.settings
        found None = l
        found (Some os) = after_below (take (n / 2) os) s l

    -- a leg expands no more settings than there are
    pub expanded_few : (g : Leg) → g.start < m.settings → expanded m g ≤ m.settings
    expanded_few g l = few m g lawful l (end m g)

    halved_few : (f n s t : ℕ) → s < m.settings → count m (halved m f n s t) ≤ (n - 1) * m.settings
    halved_few zero n s t l = omega arith
    halved_few (suc f) n s t l =
        ⊎_elim
        (λ low. omega (arith, ap (count m) (halved_none m (suc f) n s t low)))
        (λ two.
        let r = halfway m n s t in
        let a = halved_few f (n / 2) s r l in
        let b = halved_few f (n - n / 2) r t (halfway_below n s t l) in
        let c = expanded_few (fetch_leg n s t) l in
        let e = ap (count m) (halved_more m f n s t two) ∙ ap (λ x. expanded m (fetch_leg n s t) + x) (count_append (halved m f (n / 2) s r) (halved m f (n - n / 2) r t)) in
        let whole : n - 1 ≡ 1 + ((n / 2 - 1) + (n - n / 2 - 1)) = omega arith in
        let p = ap (λ x. x * m.settings) whole ∙ add-mul 1 ((n / 2 - 1) + (n - n / 2 - 1)) m.settings in
        let q = add-mul (n / 2 - 1) (n - n / 2 - 1) m.settings in
        omega (arith, a, b, c, e, p, q))
        (cases_lt n 2)

    -- a plan within the bound expands at most 255 times as many
    pub plan_few : (g : Leg) → InRange m g → count m (plan_legs m g) ≤ 255 * m.settings
    plan_few g range = omega (arith, expanded_few g range.0, rest (leg_length m g) refl)
      where
        rest : (x : Option ℕ) → leg_length m g ≡ x → count m (fetched m g.start g.target x) ≤ 254 * m.settings
        rest None e = omega arith
        rest (Some n) e =
            let l = ((least m g lawful n).0 e).0 in
            let low : n - 1 ≤ 254 = omega (arith, l, range.2) in
            omega (arith, halved_few n n g.start g.target range.0, mul-le-mul_right m.settings low)
