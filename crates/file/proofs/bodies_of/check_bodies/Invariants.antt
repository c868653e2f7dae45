-- The bodies that are left give the answer.
use Rattle.std.proofs.Common.{◌≡◌}
use Rattle.file.specs.Parts.{parts_fault}
use Rattle.file.specs.Taken.{parts_left}
use Rattle.file.proofs.bodies_of.check_bodies.Given as goal

abbrev pub invariant-loop-body : goal.invariant-loop-body
invariant-loop-body l =
    parts_fault l.bodies.rows.bytes.now l.rest.rows.number (parts_left l.rest) ≡ parts_fault l.bodies.rows.bytes.now l.bodies.rows.number (parts_left l.bodies)

abbrev pub decreases-loop-body : goal.decreases-loop-body
decreases-loop-body l = l.rest.rows.left
