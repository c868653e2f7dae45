-- What a pair of plants means: a setting of each, and an operation of either. Assumes nothing.
use Rattle.std.specs.Prelude.{ℕ, ◌+◌, ◌-◌, ◌*◌, ◌/◌, ◌%◌, min, Bool, cond, ◌&&◌, ◌||◌, Some, None, Option, nat_lt}
use Rattle.plant.specs.Meaning.{Meaning}

-- more settings or operations than a plant may have
abbrev pub too_large : Meaning → Meaning → Bool
too_large a b = nat_lt 16777216 (a.settings * b.settings) || nat_lt 2048 (a.operations + b.operations)

-- the settings of the two plants in a setting s of the pair, and back, where the first plant has n settings; both at
-- once, where s is in range
abbrev pub first_part : ℕ → ℕ → ℕ
first_part n s = s % n

abbrev pub second_part : ℕ → ℕ → ℕ
second_part n s = s / n

abbrev pub joined : ℕ → ℕ → ℕ → ℕ
joined n x y = x + n * y

abbrev pub parts_in : ℕ → ℕ → ℕ → Option (ℕ × ℕ)
parts_in range n s = cond (nat_lt s range) (Some (first_part n s, second_part n s)) None

-- where the first plant moves, or the second, the other stays
abbrev pub first_moves : ℕ → ℕ → Option ℕ → Option ℕ
first_moves n y (Some x) = Some (joined n x y)
first_moves n y None = None

abbrev pub second_moves : ℕ → ℕ → Option ℕ → Option ℕ
second_moves n x (Some y) = Some (joined n x y)
second_moves n x None = None

-- the first plant's operations come first: from its setting x and the second's y
abbrev pub moved : Meaning → Meaning → ℕ → ℕ → ℕ → Option ℕ
moved a b x y o =
    cond (nat_lt o a.operations)
    (first_moves a.settings y (a.step x o))
    (second_moves a.settings x (b.step y (o - a.operations)))

abbrev pub pair_step : Meaning → Meaning → ℕ → ℕ → Option ℕ
pair_step a b s o =
    let n = a.settings in
    cond (nat_lt s (n * b.settings)) (moved a b (first_part n s) (second_part n s) o) None

abbrev pub pair_reverse : Meaning → Meaning → ℕ → ℕ
pair_reverse a b o =
    cond (nat_lt o a.operations) (a.reverse o) (a.operations + b.reverse (o - a.operations))

-- the estimates are added, and cut off
abbrev pub pair_estimate : Meaning → Meaning → ℕ → ℕ → ℕ
pair_estimate a b s t =
    let n = a.settings in
    cond (nat_lt s (n * b.settings) && nat_lt t (n * b.settings))
    (min (a.estimate (first_part n s) (first_part n t) + b.estimate (second_part n s) (second_part n t)) 65535)
    0

-- the two side by side, whatever their size
abbrev pub beside : Meaning → Meaning → Meaning
beside a b = record {
  settings = a.settings * b.settings;
  operations = a.operations + b.operations;
  step = pair_step a b;
  reverse = pair_reverse a b;
  estimate = pair_estimate a b;
}

-- one setting, and no operation
abbrev pub alone : Meaning
alone = record {
  settings = 1;
  operations = 0;
  step = λ s o. None;
  reverse = λ o. o;
  estimate = λ s t. 0;
}

abbrev pub pair : Meaning → Meaning → Meaning
pair a b = cond (too_large a b) alone (beside a b)

-- the settings of the two plants in a setting of the pair
abbrev pub parts : Meaning → Meaning → ℕ → Option (ℕ × ℕ)
parts a b s = parts_in (pair a b).settings a.settings s
