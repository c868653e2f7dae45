-- The lookup was told which records leave.
use Rattle.std.proofs.Common.{arith}
use Rattle.std.proofs.Math.Logic.{∥∥₁_map}
use Rattle.search.proofs.search.Search.advance.Goals as goal

pub invariant_of-self : goal.invariant_of-self
invariant_of-self g c =
    let moved = c.give_up.ensures.advanced in
    record {
      within = omega (arith, moved.befores, moved.presents, moved.nexts, moved.long, c.args.self.now.within);
      followed = ∥∥₁_map c.args.self.now.followed c.give_up.ensures.follows;
    }
