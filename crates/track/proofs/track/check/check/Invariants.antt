-- What is left gives the first fault of all.
use Rattle.std.proofs.Common.{◌≡◌, drop}
use Rattle.track.specs.Fault.{rows_fault, fault}
use Rattle.track.proofs.track.check.check.Given as goal

abbrev pub invariant-loop-row : goal.invariant-loop-row
invariant-loop-row l = rows_fault l.stations l.row (drop l.row l.links) ≡ fault l.stations l.links
