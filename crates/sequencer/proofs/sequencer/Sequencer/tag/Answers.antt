-- The state follows from the call by the rules, so the promise is kept.
use Rattle.std.proofs.Common.{rules}
use Rattle.promise.specs.Calls.{tag}
use Rattle.promise.proofs.Promise.{keeps_on}
use Rattle.sequencer.specs.State.{state_of}
use Rattle.sequencer.proofs.sequencer.Sequencer.tag.Goals as goal

pub returns-in_err-tag-clause-promise : goal.returns-in_err-tag-clause-promise
returns-in_err-tag-clause-promise g c =
    keeps_on (g.P.Plant.meaning c.args.self.now.plant.below) (g.met.P.Plant.lawful c.args.self.now.plant.below) (state_of c.args.self.now) (tag c.args.operation) _ (search rules)

pub returns-then-is_some_and-clause-promise : goal.returns-then-is_some_and-clause-promise
returns-then-is_some_and-clause-promise g c =
    keeps_on (g.P.Plant.meaning c.args.self.now.plant.below) (g.met.P.Plant.lawful c.args.self.now.plant.below) (state_of c.args.self.now) (tag c.args.operation) _ (search rules)

pub returns-else-is_some_and-clause-promise : goal.returns-else-is_some_and-clause-promise
returns-else-is_some_and-clause-promise g c =
    keeps_on (g.P.Plant.meaning c.args.self.now.plant.below) (g.met.P.Plant.lawful c.args.self.now.plant.below) (state_of c.args.self.now) (tag c.args.operation) _ (search rules)
