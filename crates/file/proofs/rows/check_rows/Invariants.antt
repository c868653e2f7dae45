-- The rows that are left give the answer.
use Rattle.std.proofs.Common.{◌≡◌}
use Rattle.file.specs.Contents.{rows_fault}
use Rattle.file.proofs.rows.check_rows.Given as goal

abbrev pub invariant-loop-row : goal.invariant-loop-row
invariant-loop-row l = rows_fault l.reader l.rest.left l.rest.number l.rest.bytes.now ≡ rows_fault l.reader l.rows.left l.rows.number l.rows.bytes.now

abbrev pub decreases-loop-row : goal.decreases-loop-row
decreases-loop-row l = l.rest.left
