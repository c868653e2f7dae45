-- The parts of the body are those that its counts say.
use Rattle.plant_bodies.proofs.Benches.{parts_said}
use Rattle.plant_bodies.proofs.bench_body.BenchBody.of.Goals as goal

pub returns : goal.returns
returns c = parts_said c.args.body.now _ _ _ c.in-len2-up.len_at_least c.if-rest-end.false c.split_at.ensures.front c.split_at.ensures.back c.read_rows.ensures
