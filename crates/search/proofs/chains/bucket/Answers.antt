-- The part into which a number of 32 bits falls.
use Rattle.std.proofs.Common.{refl}
use Rattle.search.specs.Chained.{bucket_of}
use Rattle.search.proofs.Chaining.{bucket_below}
use Rattle.search.proofs.chains.bucket.Goals as goal

pub returns : goal.returns
unfolding bucket_of
returns c = record { is = refl; within = λ some. bucket_below c.args.heads c.args.setting some }
