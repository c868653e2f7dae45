-- Which data make a bench, and what is wrong first where they do not. Assumes nothing.
use Rattle.std.specs.Prelude.{ℕ, suc, cond, ◌||◌, List, [], ◌∷◌, length, Some, None, Option, ◌==◌, nat_le, nat_lt, slice_index}
use Rattle.std.specs.Option.{option_or}
use Rattle.valves.specs.declared.interlock.Interlock.{Interlock}
use Rattle.valves.specs.declared.fault.BenchFault.{BenchFault}
use Rattle.valves.specs.declared.fault.BenchFault.TheVariants.{Valves, Interlocks, Positions, Valve, Position, Other, Same, Stands}

-- the first of two faults
abbrev pub either_fault : Option BenchFault → Option BenchFault → Option BenchFault
either_fault = option_or

-- the numbers of positions, valve by valve from valve v on
abbrev pub positions_fault : List ℕ → ℕ → Option BenchFault
positions_fault [] v = None
positions_fault (n ∷ ns) v = cond (nat_lt n 2 || nat_lt 4 n) (Some (Positions v)) (positions_fault ns (suc v))

-- the fields of the interlock in row r, in their order
abbrev pub interlock_fault : List ℕ → Interlock → ℕ → Option BenchFault
interlock_fault ns l r =
    cond (nat_le (length ns) l.valve) (Some (Valve r))
    (cond (nat_le (slice_index ns l.valve) l.position) (Some (Position r))
    (cond (nat_le (length ns) l.other) (Some (Other r))
    (cond (l.other == l.valve) (Some (Same r))
    (cond (nat_le (slice_index ns l.other) l.stands) (Some (Stands r)) None))))

-- the interlocks, from row r on
abbrev pub interlocks_fault : List ℕ → List Interlock → ℕ → Option BenchFault
interlocks_fault ns [] r = None
interlocks_fault ns (l ∷ ls) r = either_fault (interlock_fault ns l r) (interlocks_fault ns ls (suc r))

-- what comes before the interlocks, where there are n: number of valves, number of interlocks, positions
abbrev pub sizes_fault : List ℕ → ℕ → Option BenchFault
sizes_fault ns n =
    cond (nat_lt (length ns) 1 || nat_lt 12 (length ns)) (Some Valves)
    (cond (nat_lt 32 n) (Some Interlocks)
    (positions_fault ns 0))

-- the first fault of all: number of valves, number of interlocks, positions, interlocks
abbrev pub bench_fault : List ℕ → List Interlock → Option BenchFault
bench_fault ns ls =
    cond (nat_lt (length ns) 1 || nat_lt 12 (length ns)) (Some Valves)
    (cond (nat_lt 32 (length ls)) (Some Interlocks)
    (either_fault (positions_fault ns 0) (interlocks_fault ns ls 0)))
