-- One position up adds the valve's weight to the setting, and one down takes it off. Assumes nothing.
use Rattle.std.proofs.Common.{◌≡◌, ℕ, ◌+◌, ◌-◌, ◌*◌, ◌/◌, ◌%◌, ◌<◌, ◌≤◌, true, false, length, get_or, set, Some, None, sym, ap, ◌∙◌, subst, mul-add, arith}
use Rattle.std.proofs.lemmas.Bool.{cond-true, cond-false, lt-ltb, le-ltb}
use Rattle.valves.specs.declared.bench.Bench.{Bench}
use Rattle.valves.specs.declared.bench.valve.Valve.{Valve}
use Rattle.valves.specs.Positions.{setting, weight, Within}
use Rattle.valves.specs.Interlocks.{barred}
use Rattle.valves.specs.Bench.{landed, raised, lowered, gone_up, gone_down}
use Rattle.valves.specs.Of.{counts_of, interlocks_of, placed}
use Rattle.valves.specs.Numbering.{positions_within, setting_positions, setting_below, setting_set, within_set}
use Rattle.valves.specs.BenchLawful.{positive, settings_few}
use Rattle.valves.specs.Invariant.{data_of, count_at, valve_in, weight_at, digit_at}

pub placed_at : (b : Bench) (s v : ℕ) (x : Valve) (p : ℕ) → v < length b.valves.items → x ≡ get_or b.valves.items v x → p ≡ s / x.weight % x.positions → p ≡ get_or (placed b s) v 0
placed_at b s v x p there is at = at ∙ (ap (λ y. s / y.weight % y.positions) is ∙ digit_at b s v x there)

-- valve v of the bench is x, which stands at p
module _ (b : Bench) (s v : ℕ) (x : Valve) (p : ℕ) (inside : s < b.settings) (there : v < length b.valves.items) (is : x ≡ get_or b.valves.items v x) (at : p ≡ s / x.weight % x.positions) where
  own_count : get_or (counts_of b) v 0 ≡ x.positions
  own_count = count_at b v x there ∙ ap (λ y. y.positions) (sym is)

  own_weight : x.weight ≡ weight (counts_of b) v
  own_weight = ap (λ y. y.weight) is ∙ weight_at b v x there

  within : Within (counts_of b) (placed b s)
  within = positions_within (counts_of b) s (positive (counts_of b) (data_of b).two)

  -- the setting with the valve at another position
  changed : (q : ℕ) → setting (counts_of b) (set (placed b s) v q) + x.weight * p ≡ s + x.weight * q
  changed q =
      ap (λ y. setting (counts_of b) (set (placed b s) v q) + y * p) own_weight
      ∙ (ap (λ y. setting (counts_of b) (set (placed b s) v q) + weight (counts_of b) v * y) (placed_at b s v x p there is at)
      ∙ (setting_set (counts_of b) (placed b s) v q within (valve_in b v there)
      ∙ (ap (λ y. y + weight (counts_of b) v * q) (setting_positions (counts_of b) s (positive (counts_of b) (data_of b).two) (subst (λ y. s < y) b.counts inside))
      ∙ ap (λ y. s + y * q) (sym own_weight))))

  -- up
  up_setting : setting (counts_of b) (set (placed b s) v (p + 1)) ≡ s + x.weight
  up_setting = let sum = changed (p + 1) in let more = mul-add x.weight p 1 in omega arith

  up_is : gone_up (counts_of b) (interlocks_of b) (placed b s) v ≡ landed (counts_of b) (interlocks_of b) v (placed b s) p (raised x.positions p)
  up_is =
      ap (λ y. landed (counts_of b) (interlocks_of b) v (placed b s) y (raised (get_or (counts_of b) v 0) y)) (sym (placed_at b s v x p there is at))
      ∙ ap (λ y. landed (counts_of b) (interlocks_of b) v (placed b s) p (raised y p)) own_count

  pub up_fits : p + 1 < x.positions → s + x.weight ≤ 16777216
  up_fits h =
      let to : p + 1 < get_or (counts_of b) v 0 = omega (arith, own_count) in
      let low = setting_below (counts_of b) (set (placed b s) v (p + 1)) (within_set (counts_of b) (placed b s) v (p + 1) within to) in
      let few = settings_few (counts_of b) (data_of b).valves_most (data_of b).four in
      omega (arith, up_setting)

  pub up_at_end : x.positions ≤ p + 1 → None ≡ gone_up (counts_of b) (interlocks_of b) (placed b s) v
  up_at_end h = sym (up_is ∙ ap (landed (counts_of b) (interlocks_of b) v (placed b s) p) (cond-false _ _ _ (le-ltb _ _ h)))

  up_moves : p + 1 < x.positions → gone_up (counts_of b) (interlocks_of b) (placed b s) v ≡ landed (counts_of b) (interlocks_of b) v (placed b s) p (Some (p + 1))
  up_moves h = up_is ∙ ap (landed (counts_of b) (interlocks_of b) v (placed b s) p) (cond-true _ _ _ (lt-ltb _ _ h))

  pub up_barred : p + 1 < x.positions → barred v p (p + 1) (placed b s) (interlocks_of b) ≡ true → None ≡ gone_up (counts_of b) (interlocks_of b) (placed b s) v
  up_barred h e = sym (up_moves h ∙ cond-true _ _ _ e)

  pub up_free : p + 1 < x.positions → barred v p (p + 1) (placed b s) (interlocks_of b) ≡ false → Some (s + x.weight) ≡ gone_up (counts_of b) (interlocks_of b) (placed b s) v
  up_free h e = sym (up_moves h ∙ (cond-false _ _ _ e ∙ ap Some up_setting))

  -- down
  down_sum : 0 < p → setting (counts_of b) (set (placed b s) v (p - 1)) + x.weight ≡ s
  down_sum h =
      let sum = changed (p - 1) in
      let more = mul-add x.weight (p - 1) 1 in
      let whole : x.weight * (p - 1 + 1) ≡ x.weight * p = ap (λ y. x.weight * y) (omega arith) in
      omega arith

  down_is : gone_down (counts_of b) (interlocks_of b) (placed b s) v ≡ landed (counts_of b) (interlocks_of b) v (placed b s) p (lowered p)
  down_is = ap (λ y. landed (counts_of b) (interlocks_of b) v (placed b s) y (lowered y)) (sym (placed_at b s v x p there is at))

  pub down_at_end : p < 1 → None ≡ gone_down (counts_of b) (interlocks_of b) (placed b s) v
  down_at_end h =
      let end : p ≤ 0 = omega arith in
      sym (down_is ∙ ap (landed (counts_of b) (interlocks_of b) v (placed b s) p) (cond-false _ _ _ (le-ltb _ _ end)))

  down_moves : 0 < p → gone_down (counts_of b) (interlocks_of b) (placed b s) v ≡ landed (counts_of b) (interlocks_of b) v (placed b s) p (Some (p - 1))
  down_moves h = down_is ∙ ap (landed (counts_of b) (interlocks_of b) v (placed b s) p) (cond-true _ _ _ (lt-ltb _ _ h))

  pub down_barred : 0 < p → barred v p (p - 1) (placed b s) (interlocks_of b) ≡ true → None ≡ gone_down (counts_of b) (interlocks_of b) (placed b s) v
  down_barred h e = sym (down_moves h ∙ cond-true _ _ _ e)

  pub down_free : 0 < p → barred v p (p - 1) (placed b s) (interlocks_of b) ≡ false → Some (s - x.weight) ≡ gone_down (counts_of b) (interlocks_of b) (placed b s) v
  down_free h e =
      let is : setting (counts_of b) (set (placed b s) v (p - 1)) ≡ s - x.weight = omega (arith, down_sum h) in
      sym (down_moves h ∙ (cond-false _ _ _ e ∙ ap Some is))
