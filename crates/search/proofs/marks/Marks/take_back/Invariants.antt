-- The marks of the records passed are taken back.
use Rattle.std.proofs.Common.{ℕ, List, ◌++◌, map, drop}
use Rattle.search.specs.Marked.{Follows}
use Rattle.search.proofs.marks.Marks.take_back.Given as goal

abbrev pub invariant-loop-record : goal.invariant-loop-record
invariant-loop-record g l = (ss : List ℕ) → Follows l.initial.self (map g.R.Record.tells l.records ++ ss) → Follows l.self (drop l.record-index (map g.R.Record.tells l.records) ++ ss)
