-- What is left gives the first fault of all.
use Rattle.std.proofs.Common.{◌≡◌, drop}
use Rattle.valves.specs.Faults.{interlocks_fault}
use Rattle.valves.proofs.check.check_interlocks.Given as goal

abbrev pub invariant-loop-row : goal.invariant-loop-row
invariant-loop-row l = interlocks_fault l.positions (drop l.row l.interlocks) l.row ≡ interlocks_fault l.positions l.interlocks 0
