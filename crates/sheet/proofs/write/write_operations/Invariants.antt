-- The operations so far are written.
use Rattle.std.proofs.Common.{◌≡◌, ◌*◌, take}
use Rattle.sheet.specs.Bytes.{words}
use Rattle.sheet.proofs.write.write_operations.Given as goal

abbrev pub invariant-loop-i : goal.invariant-loop-i
invariant-loop-i l = take (2 * l.i) l.part ≡ words (take l.i l.operations)
