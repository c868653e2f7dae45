-- The parts of the body make its track, where they have no fault.
use Rattle.std.proofs.Common.{sym, subst, arith}
use Rattle.std.proofs.lemmas.Grind.{common_steps}
use Rattle.plants_read.specs.Tracks.{ReadsTrack}
use Rattle.plants_read.proofs.TrackBodies.{read}
use Rattle.plants_read.proofs.track_read.track_of.Goals as goal

pub returns : goal.returns
returns c =
    let bs = c.args.body.now in
    subst (ReadsTrack bs) (sym c.ok.ensures.value) (read bs _ _ _ c.new.result c.new.ensures c.in_ok-track.ensures (grind (arith, common_steps)))
