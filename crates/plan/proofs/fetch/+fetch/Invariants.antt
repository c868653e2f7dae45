-- The list gets shorter.
use Rattle.std.proofs.Common.{length}
use Rattle.plan.proofs.fetch.+fetch.Given as goal

abbrev pub decreases-fetch : goal.decreases-fetch
decreases-fetch g l = length l.list.now
