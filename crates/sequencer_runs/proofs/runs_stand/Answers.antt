-- Each run is worked out.
use Rattle.std.proofs.Common.{refl}
use Rattle.sequencer_runs.proofs.runs_stand.Goals as goal

pub returns : goal.returns
returns c =
    record {
      planned = refl;
      worked = refl;
      stepped = refl;
      wrong = refl;
      ended = refl;
      covered = refl;
      twice = refl;
      unreached = refl;
      crowded = refl;
      kept = refl;
      finished = refl;
      nothing_left = refl;
      dropped = refl;
      spared = refl;
      freed = refl;
    }
