-- The state follows from the call by the rules, so the promise is kept.
use Rattle.std.proofs.Common.{rules}
use Rattle.promise.specs.Calls.{done}
use Rattle.promise.proofs.Promise.{keeps_on}
use Rattle.sequencer.specs.State.{state_of}
use Rattle.sequencer.proofs.sequencer.Sequencer.done.Goals as goal

pub returns-in_err-ok_or-clause-promise : goal.returns-in_err-ok_or-clause-promise
returns-in_err-ok_or-clause-promise g c =
    keeps_on (g.P.Plant.meaning c.args.self.now.plant.below) (g.met.P.Plant.lawful c.args.self.now.plant.below) (state_of c.args.self.now) (done c.args.operation) _ (search rules)

pub returns-in_err-advance-clause-promise : goal.returns-in_err-advance-clause-promise
returns-in_err-advance-clause-promise g c =
    keeps_on (g.P.Plant.meaning c.args.self.now.plant.below) (g.met.P.Plant.lawful c.args.self.now.plant.below) (state_of c.args.self.now) (done c.args.operation) _ (search rules)

pub returns-in-Some-clause-promise : goal.returns-in-Some-clause-promise
returns-in-Some-clause-promise g c =
    keeps_on (g.P.Plant.meaning c.args.self.now.plant.below) (g.met.P.Plant.lawful c.args.self.now.plant.below) (state_of c.args.self.now) (done c.args.operation) _ (search rules)

pub returns-in_default-clause-promise : goal.returns-in_default-clause-promise
returns-in_default-clause-promise g c =
    keeps_on (g.P.Plant.meaning c.args.self.now.plant.below) (g.met.P.Plant.lawful c.args.self.now.plant.below) (state_of c.args.self.now) (done c.args.operation) _ (search rules)
