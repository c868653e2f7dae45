-- Once the counts are right, the links tell.
use Rattle.std.proofs.Common.{refl}
use Rattle.track.proofs.Counts.{counts_right}
use Rattle.track.proofs.track.check.check.Goals as goal

pub loop-row-init : goal.loop-row-init
loop-row-init c = counts_right c.args.stations _ c.args.links.now refl c.in_ok-check_counts.ensures
