-- The rows so far.
use Rattle.std.proofs.Common.{◌≡◌, take}
use Rattle.valves.specs.Held.{locks_in, following_in}
use Rattle.valves.proofs.bench.tables.rows_of.Given as goal

abbrev pub invariant-loop-row : goal.invariant-loop-row
invariant-loop-row l = record {
  held : locks_in l.rows.items ≡ take l.row l.interlocks;
  goes : following_in l.rows.items ≡ take l.row l.following;
}
