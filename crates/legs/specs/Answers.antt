-- What a search answers: the first refusal that is due, else what it found with the settings expanded. Assumes nothing.
use Rattle.std.specs.Prelude.{ℕ, Bool, true, false, ◌||◌, ltb, Some, None, Ok, Err, Option, Result, nat_le, nat_lt}
use Rattle.plant.specs.Meaning.{Meaning}
use Rattle.plant.specs.declared.refusal.Refusal.{Refusal}
use Rattle.plant.specs.declared.refusal.Refusal.TheVariants.{NoSuchSetting, Bound, Overfull, OutOfReach}
use Rattle.legs.specs.Layers.{Leg}
use Rattle.legs.specs.Legs.{leg_length, expanded, need}

-- what was found, and the number of settings expanded
pub record Counted (A : Type 0) : Type 0 where
  pub found : A
  pub count : ℕ

-- by whether a setting is none of the plant's, whether the bound is too high, and whether the records are too few
abbrev pub answer : {A : Type 0} → Bool → Bool → Bool → Option A → ℕ → Result (Counted A) Refusal
answer true high full x n = Err NoSuchSetting
answer false true full x n = Err Bound
answer false false true x n = Err Overfull
answer false false false None n = Err OutOfReach
answer false false false (Some a) n = Ok (record { found = a; count = n })

-- whether the start or the target is none of the plant's settings
abbrev pub outside : Meaning → Leg → Bool
outside m g = nat_le m.settings g.start || nat_le m.settings g.target

-- whether the bound is above 255
abbrev pub too_high : Leg → Bool
too_high g = nat_lt 255 g.bound

-- the answer of a measure of one leg with that many records: its length
abbrev pub measured : Meaning → Leg → ℕ → Result (Counted ℕ) Refusal
measured m g records =
    let full = ltb records (need m g) in
    let length = leg_length m g in
    let number = expanded m g in
    answer (outside m g) (too_high g) full length number
