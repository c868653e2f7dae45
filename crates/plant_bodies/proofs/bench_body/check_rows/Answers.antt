-- A four that is right leaves the answer to those behind it.
use Rattle.std.proofs.Common.{◌∙◌, arith}
use Rattle.std.proofs.lemmas.Grind.{common_steps}
use Rattle.plant_bodies.proofs.Locks.{size_wrong, fours_begun, four_right}
use Rattle.plant_bodies.proofs.bench_body.check_rows.Goals as goal

pub returns-in_err-check_sizes : goal.returns-in_err-check_sizes
returns-in_err-check_sizes c =
    let wrong = size_wrong c.args.positions.now c.args.rows.now _ c.as_chunks.ensures.front _ c.in_err-check_sizes.ensures in
    grind (arith, common_steps, wrong)

pub loop-row-init : goal.loop-row-init
loop-row-init c = fours_begun c.args.positions.now c.args.rows.now _ c.as_chunks.ensures.front c.in_ok-check_sizes.ensures

pub loop-row-preserved : goal.loop-row-preserved
loop-row-preserved c =
    four_right c.args.positions.now c.loop-row.row c.as_chunks.result.0.now _ c.of-lock.result c.loop-row-test.true c.of-lock.ensures c.in_ok-check_row.ensures
    ∙ c.loop-row.invariant
