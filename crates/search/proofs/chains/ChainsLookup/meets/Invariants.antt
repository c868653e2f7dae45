-- Every place of the setting can still be found from this one on.
use Rattle.std.proofs.Common.{◌≤◌, map, length}
use Rattle.search.proofs.Chaining.{Left}
use Rattle.search.proofs.chains.ChainsLookup.meets.Given as goal

abbrev pub invariant-loop-place : goal.invariant-loop-place
invariant-loop-place g l = (l.above ≤ length l.records) × ∥ Left l.self.memory.now l.self.heads (map g.R.Record.tells l.records) l.setting l.above l.place ∥₁

abbrev pub decreases-loop-place : goal.decreases-loop-place
decreases-loop-place g l = l.above
