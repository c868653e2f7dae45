-- What a bench was made of, what it means, and what making one answers. Assumes nothing.
use Rattle.std.specs.Prelude.{◌≡◌, ℕ, cond, ◌&&◌, List, length, Some, None, Ok, Err, Option, Result, nat_lt, slice_index}
use Rattle.plant.specs.Meaning.{Meaning}
use Rattle.valves.specs.declared.interlock.Interlock.{Interlock}
use Rattle.valves.specs.declared.fault.BenchFault.{BenchFault}
use Rattle.valves.specs.declared.bench.Bench.{Bench}
use Rattle.valves.specs.Positions.{product, positions}
use Rattle.valves.specs.Bench.{bench}
use Rattle.valves.specs.Faults.{bench_fault}
use Rattle.valves.specs.Held.{positions_in, locks_in}

-- the numbers of positions of its valves
abbrev pub counts_of : Bench → List ℕ
counts_of b = positions_in b.valves.items

-- its interlocks
abbrev pub interlocks_of : Bench → List Interlock
interlocks_of b = locks_in b.rows.items

-- the positions of its valves at a setting
abbrev pub placed : Bench → ℕ → List ℕ
placed b s = positions (counts_of b) s

-- the plant that it is
abbrev pub bench_of : Bench → Meaning
bench_of b = bench (counts_of b) (interlocks_of b)

-- a bench of just these data where they have no fault, else the first fault
abbrev pub Makes : List ℕ → List Interlock → Result Bench BenchFault → Type 0
Makes ns ls (Ok b) = (bench_fault ns ls ≡ None) × (counts_of b ≡ ns) × (interlocks_of b ≡ ls)
Makes ns ls (Err f) = bench_fault ns ls ≡ Some f

-- the position of a valve at a setting, if there are such a valve and such a setting
abbrev pub position_of : List ℕ → ℕ → ℕ → Option ℕ
position_of ns s v = cond (nat_lt s (product ns) && nat_lt v (length ns)) (Some (slice_index (positions ns s) v)) None
