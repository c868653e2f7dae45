-- What is left gives the first fault of all.
use Rattle.std.proofs.Common.{◌≡◌, drop}
use Rattle.valves.specs.Faults.{positions_fault}
use Rattle.valves.proofs.check.check_positions.Given as goal

abbrev pub invariant-loop-valve : goal.invariant-loop-valve
invariant-loop-valve l = positions_fault (drop l.valve l.positions) l.valve ≡ positions_fault l.positions 0
