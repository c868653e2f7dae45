-- What is wrong with the counts ends the check; else the links tell.
use Rattle.std.proofs.Common.{arith}
use Rattle.std.proofs.lemmas.Grind.{common_steps}
use Rattle.plant_bodies.proofs.Links.{count_wrong, fours_begun}
use Rattle.plant_bodies.proofs.track_body.check_rows.Goals as goal

pub returns-in_err-check_counts : goal.returns-in_err-check_counts
returns-in_err-check_counts c =
    let wrong = count_wrong c.args.stations c.args.rows.now _ c.as_chunks.ensures.front _ c.in_err-check_counts.ensures in
    grind (arith, common_steps, wrong)

pub loop-row-init : goal.loop-row-init
loop-row-init c = fours_begun c.args.stations c.args.rows.now _ c.as_chunks.ensures.front c.in_ok-check_counts.ensures
