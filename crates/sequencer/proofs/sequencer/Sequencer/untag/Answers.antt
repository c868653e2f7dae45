-- The state follows from the call by the rules, so the promise is kept.
use Rattle.std.proofs.Common.{rules}
use Rattle.promise.specs.Calls.{untag}
use Rattle.promise.proofs.Promise.{keeps_on}
use Rattle.sequencer.specs.State.{state_of}
use Rattle.sequencer.proofs.sequencer.Sequencer.untag.Goals as goal

pub returns-in_err-untag-clause-promise : goal.returns-in_err-untag-clause-promise
returns-in_err-untag-clause-promise g c =
    keeps_on (g.P.Plant.meaning c.args.self.now.plant.below) (g.met.P.Plant.lawful c.args.self.now.plant.below) (state_of c.args.self.now) (untag c.args.operation) _ (search rules)

pub returns-clause-promise : goal.returns-clause-promise
returns-clause-promise g c =
    keeps_on (g.P.Plant.meaning c.args.self.now.plant.below) (g.met.P.Plant.lawful c.args.self.now.plant.below) (state_of c.args.self.now) (untag c.args.operation) _ (search rules)
