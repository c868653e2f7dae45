-- What is wrong first with the body of a valve bench: V, R, V numbers of positions, R interlocks of four bytes. Assumes nothing.
use Rattle.std.specs.Prelude.{◌≡◌, ℕ, ◌+◌, ◌*◌, Bool, true, cond, not, List, length, take, drop, Some, Option, ◌==◌, slice_index}
use Rattle.std.specs.Option.{option_map}
use Rattle.valves.specs.declared.interlock.Interlock.{Interlock}
use Rattle.valves.specs.declared.fault.BenchFault.{BenchFault}
use Rattle.valves.specs.declared.fault.BenchFault.TheVariants as bench
use Rattle.valves.specs.Faults.{bench_fault}
use Rattle.plant_bodies.specs.Rows.{rows_in, interlock}
use Rattle.plant_bodies.specs.declared.bench_body.ValvesFault.{ValvesFault}
use Rattle.plant_bodies.specs.declared.bench_body.ValvesFault.TheVariants.{Length, Bench}

-- r interlocks, one after another
abbrev pub interlocks_in : ℕ → List ℕ → List Interlock
interlocks_in r bs = rows_in interlock r bs

-- what the body counts
abbrev pub valves_in : List ℕ → ℕ
valves_in bs = slice_index bs 0

abbrev pub interlock_count : List ℕ → ℕ
interlock_count bs = slice_index bs 1

-- the numbers of positions, and the interlocks
abbrev pub body_positions : List ℕ → List ℕ
body_positions bs = take (valves_in bs) (drop 2 bs)

abbrev pub body_interlocks : List ℕ → List Interlock
body_interlocks bs = interlocks_in (interlock_count bs) (drop (2 + valves_in bs) bs)

-- it is as long as its own counts say
abbrev pub bench_long : List ℕ → Bool
bench_long bs = length bs == 2 + (valves_in bs + 4 * interlock_count bs)

-- these are the numbers of positions and the first 33 interlocks of a body of the right length
pub record BenchSays (bs ns : List ℕ) (ls : List Interlock) : Type 0 where
  pub long : bench_long bs ≡ true
  pub positions : ns ≡ body_positions bs
  pub interlocks : ls ≡ take 33 (body_interlocks bs)

-- its length by its own counts, then the bench's first fault
abbrev pub valves_fault : List ℕ → Option ValvesFault
valves_fault bs =
    cond (not (bench_long bs)) (Some Length)
    (option_map (Bench (valves_in bs)) (bench_fault (body_positions bs) (body_interlocks bs)))

-- the byte of a body of v valves that a fault of the bench names: the first one of the field, of two that clash the later
abbrev pub bench_byte : ℕ → BenchFault → ℕ
bench_byte v bench.Valves = 0
bench_byte v bench.Interlocks = 1
bench_byte v (bench.Positions i) = 2 + i
bench_byte v (bench.Valve r) = 2 + (v + 4 * r)
bench_byte v (bench.Position r) = 3 + (v + 4 * r)
bench_byte v (bench.Other r) = 4 + (v + 4 * r)
bench_byte v (bench.Same r) = 4 + (v + 4 * r)
bench_byte v (bench.Stands r) = 5 + (v + 4 * r)

abbrev pub valves_byte : ValvesFault → ℕ
valves_byte Length = 0
valves_byte (Bench v f) = bench_byte v f
