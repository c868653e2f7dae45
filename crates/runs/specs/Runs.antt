-- Runs on bench A: what the definitions of legs, measures and plans come to there. Assumes nothing.
use Rattle.std.specs.Prelude.{◌≡◌, ℕ, true, [], ◌∷◌, None, Ok, Err, Result}
use Rattle.plant.specs.Meaning.{Meaning}
use Rattle.plant.specs.declared.refusal.Refusal.{Refusal}
use Rattle.plant.specs.declared.refusal.Refusal.TheVariants.{NoSuchSetting, Bound, Overfull, OutOfReach}
use Rattle.valves.specs.Bench.{bench}
use Rattle.sample_plants.specs.BenchA.{positions, interlocks}
use Rattle.tagged.specs.Tags.{untagged, cover}
use Rattle.tagged.specs.Meaning.{tagged}
use Rattle.legs.specs.Layers.{Leg}
use Rattle.legs.specs.Legs.{leg_length, need}
use Rattle.legs.specs.Answers.{Counted, measured}
use Rattle.legs.specs.Plans.{planned}

abbrev pub bench_a : Meaning
bench_a = bench positions interlocks

-- the same with operation 2, and so its reverse, tagged
abbrev pub bench_a_tagged : Meaning
bench_a_tagged = tagged bench_a (cover bench_a untagged 2 true)

-- from a start to a target within a bound
abbrev pub leg : ℕ → ℕ → ℕ → Leg
leg start target bound = record { start = start; target = target; bound = bound }

-- this was found, and so many settings were expanded
abbrev pub found : {A : Type 0} → A → ℕ → Result (Counted A) Refusal
found a n = Ok (record { found = a; count = n })

pub record Runs : Type 0 where
  -- from 0 to 2 within 4
  pub plan_with_four_records : planned bench_a (leg 0 2 4) 4 ≡ found (0 ∷ 2 ∷ 0 ∷ 3 ∷ []) 16
  pub plan_with_three_records : planned bench_a (leg 0 2 4) 3 ≡ Err Overfull
  pub measure_with_four_records : measured bench_a (leg 0 2 4) 4 ≡ found 4 5
  pub need_within_four : need bench_a (leg 0 2 4) ≡ 4
  -- from 0 to 2 within 3
  pub plan_out_of_reach : planned bench_a (leg 0 2 3) 2 ≡ Err OutOfReach
  pub plan_with_one_record : planned bench_a (leg 0 2 3) 1 ≡ Err Overfull
  pub need_within_three : need bench_a (leg 0 2 3) ≡ 2
  pub no_length_within_three : leg_length bench_a (leg 0 2 3) ≡ None
  -- from 0 to 0 within 0
  pub plan_in_place : planned bench_a (leg 0 0 0) 1 ≡ found [] 0
  pub need_in_place : need bench_a (leg 0 0 0) ≡ 1
  pub plan_without_records : planned bench_a (leg 0 0 0) 0 ≡ Err Overfull
  -- the last setting and the one past it, the highest bound and the one above it
  pub last_setting_allowed : planned bench_a (leg 0 5 255) 6 ≡ found (0 ∷ 2 ∷ 0 ∷ []) 10
  pub setting_past_the_last : planned bench_a (leg 0 6 255) 6 ≡ Err NoSuchSetting
  pub highest_bound_allowed : planned bench_a (leg 0 2 255) 4 ≡ found (0 ∷ 2 ∷ 0 ∷ 3 ∷ []) 16
  pub bound_above_the_highest : planned bench_a (leg 0 2 256) 4 ≡ Err Bound
  -- with operation 2 tagged
  pub plan_around_a_tag : planned bench_a_tagged (leg 0 2 255) 2 ≡ Err OutOfReach
