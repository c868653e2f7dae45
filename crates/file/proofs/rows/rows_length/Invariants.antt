-- What is counted and what the rows that are left take make the sum.
use Rattle.std.proofs.Common.{◌≡◌, ◌+◌, ◌*◌, ◌≤◌}
use Rattle.file.specs.Contents.{rows_length}
use Rattle.file.proofs.rows.rows_length.Given as goal

abbrev pub invariant-loop-row : goal.invariant-loop-row
invariant-loop-row l = (l.total + rows_length l.rest.left l.rest.bytes.now ≡ rows_length l.rows.left l.rows.bytes.now) × (l.total + 65535 * l.rest.left ≤ 65535 * l.rows.left)

abbrev pub decreases-loop-row : goal.decreases-loop-row
decreases-loop-row l = l.rest.left
