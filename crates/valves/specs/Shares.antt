-- A digit of a number by two products, with no division by its weight. Assumes nothing.
use Rattle.std.specs.Prelude.{◌≡◌, ℕ, ◌+◌, ◌-◌, ◌*◌, ◌/◌, ◌%◌, ◌<◌, ◌≤◌}
use Rattle.std.proofs.Math.Path.{ap}
use Rattle.std.proofs.Common.{◌∙◌, mul-pos, mul-le-mul_left, lt_of_mul-lt-mul_right, le_of_mul-le-mul_right}
use Rattle.std.proofs.Math.Nat.{mod-lt, mod-eq_of_lt, div-add-mod, add-mul-mod_self_left, div-eq_of_lt-le, mul-le-mul_right}
use native.Mathlib.Omega.{arith}

-- Of a whole k each number below w * n has one share, rounded up. Then s shares, less the wholes among them, are the
-- fraction of the whole that s % (w * n) is of w * n, and n times that has as many wholes as the digit of weight w
-- says. What the rounding adds is less than a whole at the last step, where s * (w * n) is below k.
module _ (k s w n : ℕ) (whole : 0 < k) (weight : 0 < w) (some : 0 < n) (few : s * (w * n) < k) where
  abbrev share : ℕ
  share = k / (w * n) + 1

  -- what all shares are above the whole
  over : ℕ
  over = w * n - k % (w * n)

  digit : ℕ
  digit = s / w % n

  -- s % (w * n), by its digit
  rest : ℕ
  rest = w * digit + s % w

  fraction : ℕ
  fraction = s / w / n * over + rest * share

  all_shares : share * (w * n) ≡ k + over
  unfolding over
  all_shares = let low = mod-lt k (mul-pos weight some) in omega arith

  parts : s ≡ s / w / n * (w * n) + rest
  unfolding rest digit
  parts = let high = div-add-mod s w in let low = ap (λ x. w * x) (div-add-mod (s / w) n) in omega arith

  fraction_times : fraction * (w * n) ≡ over * s + rest * k
  unfolding fraction
  fraction_times = let a = ap (λ x. rest * x) all_shares in let b = ap (λ x. over * x) parts in omega arith

  -- the rounding does not reach the next digit
  over_small : over * s < k
  unfolding over
  over_small = let most : (w * n - k % (w * n)) * s ≤ w * n * s = mul-le-mul_right s (omega arith) in omega arith

  from_digit : w * digit * k ≤ over * s + rest * k
  unfolding rest
  from_digit = omega arith

  rest_below : rest + 1 ≤ w * digit + w
  unfolding rest
  rest_below = let low = mod-lt s weight in omega arith

  below_next : over * s + rest * k < (w * digit + w) * k
  below_next =
      let more : (rest + 1) * k ≤ (w * digit + w) * k = mul-le-mul_right k rest_below in
      let small = over_small in
      omega arith

  digit_below : digit + 1 ≤ n
  unfolding digit
  digit_below = let low = mod-lt (s / w) some in omega arith

  fraction_below : fraction < k
  fraction_below =
      let last : w * (digit + 1) ≤ w * n = mul-le-mul_left w digit_below in
      let wide : w * (digit + 1) * k ≤ w * n * k = mul-le-mul_right k last in
      let times = fraction_times in
      let next = below_next in
      let under : fraction * (w * n) < k * (w * n) = omega arith in
      lt_of_mul-lt-mul_right (w * n) under

  shares_fraction : s * share % k ≡ fraction
  unfolding fraction
  shares_fraction =
      let a = ap (λ x. x * share) parts in
      let b = ap (λ x. s / w / n * x) all_shares in
      let sum : s * share ≡ fraction + k * (s / w / n) = omega arith in
      ap (λ x. x % k) sum ∙ (add-mul-mod_self_left fraction k (s / w / n) ∙ mod-eq_of_lt fraction_below)

  pub share_digit : s * share % k * n / k ≡ s / w % n
  unfolding digit
  share_digit =
      let times = fraction_times in
      let low : digit * k * w ≤ fraction * n * w = omega (arith, from_digit) in
      let high : fraction * n * w < (digit + 1) * k * w = omega (arith, below_next) in
      ap (λ x. x * n / k) shares_fraction ∙ div-eq_of_lt-le k (le_of_mul-le-mul_right low weight) (lt_of_mul-lt-mul_right w high)
