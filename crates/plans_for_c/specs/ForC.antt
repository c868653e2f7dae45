-- The answers of measures and plans as numbers for callers in C. Assumes nothing.
use Rattle.std.specs.Prelude.{ℕ, ◌-◌, ◌*◌, cond, List, ◌++◌, length, replicate, is_some, Some, None, Ok, Err, Option, Result, ◌==◌}
use Rattle.plant.specs.Meaning.{Meaning}
use Rattle.plant.specs.declared.refusal.Refusal.{Refusal}
use Rattle.plant.specs.Refusals.{number}
use Rattle.pair.specs.Meaning.{pair}
use Rattle.legs.specs.Answers.{Counted}
use Rattle.plant_bodies.specs.BenchRule.{valves_fault}
use Rattle.plant_bodies.specs.TrackRule.{track_fault}
use Rattle.plants_read.specs.Benches.{bench_described}
use Rattle.plants_read.specs.Tracks.{track_described}

-- the length, or 256 times the number of the refusal
abbrev pub measure_code : Result (Counted ℕ) Refusal → ℕ
measure_code (Ok a) = a.found
measure_code (Err e) = 256 * number e

abbrev pub plan_code : Result (Counted (List ℕ)) Refusal → ℕ
plan_code (Ok a) = length a.found
plan_code (Err e) = 256 * number e

-- the count where there is an answer; else what stood there
abbrev pub count_told : {A : Type 0} → Result (Counted A) Refusal → ℕ → ℕ
count_told (Ok a) was = a.count
count_told (Err e) was = was

-- the plant that bodies describe; none where one has a fault
abbrev pub bench_in : List ℕ → Option Meaning
bench_in bs = cond (is_some (valves_fault bs)) None (Some (bench_described bs))

abbrev pub track_in : List ℕ → Option Meaning
track_in bs = cond (is_some (track_fault bs)) None (Some (track_described bs))

abbrev pub pair_of : Option Meaning → Option Meaning → Option Meaning
pair_of None b = None
pair_of (Some a) None = None
pair_of (Some a) (Some b) = Some (pair a b)

abbrev pub pair_in : List ℕ → List ℕ → Option Meaning
pair_in first second = pair_of (bench_in first) (bench_in second)

-- by the plant, and 65,536 without one
abbrev pub answer_on : (Meaning → ℕ) → Option Meaning → ℕ
answer_on f None = 65536
answer_on f (Some m) = f m

-- what a call on the plant leaves, and without one what stood there
abbrev pub left_on : {A : Type 0} → (Meaning → A → A) → Option Meaning → A → A
left_on f None was = was
left_on f (Some m) was = f m was

-- the list with zero behind it where there is one; else what stood there
abbrev pub list_told : Result (Counted (List ℕ)) Refusal → List ℕ → List ℕ
list_told (Ok a) was = a.found ++ replicate (255 - length a.found) 0
list_told (Err e) was = was

-- the bench, where the place for the list has 255 numbers
abbrev pub bench_for : List ℕ → ℕ → Option Meaning
bench_for bs room = cond (room == 255) (bench_in bs) None
