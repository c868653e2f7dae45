-- The parts of the body make its bench, where they have no fault.
use Rattle.std.proofs.Common.{sym, subst, arith}
use Rattle.std.proofs.lemmas.Grind.{common_steps}
use Rattle.plants_read.specs.Benches.{ReadsBench}
use Rattle.plants_read.proofs.BenchBodies.{read}
use Rattle.plants_read.proofs.bench_read.bench_of.Goals as goal

pub returns : goal.returns
returns c =
    let bs = c.args.body.now in
    subst (ReadsBench bs) (sym c.ok.ensures.value) (read bs _ _ _ c.new.result c.new.ensures c.in_ok-bench.ensures (grind (arith, common_steps)))
