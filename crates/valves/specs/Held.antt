-- What the valves and the rows of a bench hold, as lists. Assumes nothing.
use Rattle.std.specs.Prelude.{ℕ, List, map}
use Rattle.valves.specs.declared.interlock.Interlock.{Interlock}
use Rattle.valves.specs.declared.bench.valve.Valve.{Valve}
use Rattle.valves.specs.declared.bench.row.Row.{Row}

abbrev pub positions_in : List Valve → List ℕ
positions_in = map (λ x. x.positions)

abbrev pub weights_in : List Valve → List ℕ
weights_in = map (λ x. x.weight)

abbrev pub shares_in : List Valve → List ℕ
shares_in = map (λ x. x.share)

abbrev pub firsts_in : List Valve → List ℕ
firsts_in = map (λ x. x.first)

abbrev pub locks_in : List Row → List Interlock
locks_in = map (λ x. x.lock)

abbrev pub following_in : List Row → List ℕ
following_in = map (λ x. x.following)
