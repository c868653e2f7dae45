-- The entries that are left are those behind the ones that were passed, and their bodies end the file.
use Rattle.std.proofs.Common.{◌≡◌, ℕ, ◌+◌, length, drop}
use Rattle.std.specs.List.{slice_get}
use Rattle.file.specs.Contents.{rows_length}
use Rattle.file.specs.Parts.{parts_from}
use Rattle.file.specs.Taken.{parts_left}
use Rattle.file.proofs.body.Bodies.nth.Given as goal

abbrev pub invariant-loop-before : goal.invariant-loop-before
invariant-loop-before l = record {
  there : l._before + l.rows.left ≡ l.self.rows.left;
  whole : l.place + rows_length l.rows.left l.rows.bytes.now ≡ length l.self.file.now;
  entries : (k : ℕ) → slice_get (parts_from l.rows.left l.rows.bytes.now l.place (drop l.place l.self.file.now)) k ≡ slice_get (parts_left l.self) (l._before + k);
}
