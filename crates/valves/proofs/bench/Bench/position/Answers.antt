-- The numbering holds of the data of every bench.
use Rattle.valves.specs.Of.{counts_of}
use Rattle.valves.specs.Numbering.{positions_within, setting_positions, setting_below, positions_setting}
use Rattle.valves.specs.BenchLawful.{positive}
use Rattle.valves.specs.Invariant.{data_of}
use Rattle.valves.proofs.bench.Bench.position.Goals as goal

pub returns-clause-numbered : goal.returns-clause-numbered
returns-clause-numbered c =
    let ns = counts_of c.args.self.now in
    let some = positive ns (data_of c.args.self.now).two in
    record {
      positions_in = λ s h. positions_within ns s some;
      setting_back = λ s h. setting_positions ns s some h;
      setting_in = setting_below ns;
      positions_back = positions_setting ns;
    }
