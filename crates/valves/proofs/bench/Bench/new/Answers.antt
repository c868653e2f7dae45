-- Data without a fault make a bench.
use Rattle.std.proofs.Common.{sym, ap, ◌∙◌}
use Rattle.std.specs.Result.{result_err}
use Rattle.valves.specs.Faultless.{data_from_none}
use Rattle.valves.proofs.bench.Bench.new.Goals as goal

pub make-requires : goal.make-requires
make-requires c = data_from_none _ _ (sym c.check.ensures ∙ ap result_err c.in_ok-check.was)
