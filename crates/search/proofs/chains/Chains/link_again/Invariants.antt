-- The records before this place have been entered.
use Rattle.std.proofs.Common.{ℕ, List, map, take}
use Rattle.search.specs.Chained.{Follows}
use Rattle.search.proofs.chains.Chains.link_again.Given as goal

abbrev pub invariant-loop-place : goal.invariant-loop-place
invariant-loop-place g l = (ss : List ℕ) → Follows l.initial.self ss → Follows l.self (take l.place (map g.R.Record.tells l.records))
