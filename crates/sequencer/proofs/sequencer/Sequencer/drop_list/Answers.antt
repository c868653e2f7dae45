-- The state follows from the call by the rules, so the promise is kept.
use Rattle.std.proofs.Common.{rules}
use Rattle.promise.specs.Calls.{drop_list}
use Rattle.promise.proofs.Promise.{keeps_on}
use Rattle.sequencer.specs.State.{state_of}
use Rattle.sequencer.proofs.sequencer.Sequencer.drop_list.Goals as goal

pub returns-then-is_none-clause-promise : goal.returns-then-is_none-clause-promise
returns-then-is_none-clause-promise g c =
    keeps_on (g.P.Plant.meaning c.args.self.now.plant.below) (g.met.P.Plant.lawful c.args.self.now.plant.below) (state_of c.args.self.now) drop_list _ (search rules)

pub returns-clause-promise : goal.returns-clause-promise
returns-clause-promise g c =
    keeps_on (g.P.Plant.meaning c.args.self.now.plant.below) (g.met.P.Plant.lawful c.args.self.now.plant.below) (state_of c.args.self.now) drop_list _ (search rules)
