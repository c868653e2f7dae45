-- The reverse of an operation is an operation, so it has its place among the tags.
use Rattle.std.proofs.Common.{arith}
use Rattle.tagged.proofs.tagged.Tagged.is_tagged.Goals as goal

pub bounds-self-reverse : goal.bounds-self-reverse
bounds-self-reverse g c =
    let lawful = g.met.P.Plant.lawful c.args.self.now.below in
    omega (arith, lawful.reverse_within c.args.operation (omega arith))
