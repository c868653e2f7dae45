-- The valves so far, and the next weight.
use Rattle.std.proofs.Common.{◌≡◌, ℕ, ◌<◌, take, get_or}
use Rattle.valves.specs.Positions.{weight}
use Rattle.valves.specs.Held.{positions_in, weights_in, firsts_in}
use Rattle.valves.proofs.bench.tables.valves_of.Given as goal

abbrev pub invariant-loop-valve : goal.invariant-loop-valve
invariant-loop-valve l = record {
  held : positions_in l.valves.items ≡ take l.valve l.positions;
  next : l.weight ≡ weight l.positions l.valve;
  weighs : (v : ℕ) → v < l.valve → get_or (weights_in l.valves.items) v 0 ≡ weight l.positions v;
  begins : firsts_in l.valves.items ≡ take l.valve l.first;
}
