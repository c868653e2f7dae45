-- The state follows from the call by the rules, so the promise is kept.
use Rattle.std.proofs.Common.{length, rules}
use Rattle.promise.specs.Calls.{plan}
use Rattle.promise.proofs.Promise.{keeps_on}
use Rattle.sequencer.specs.State.{state_of}
use Rattle.sequencer.proofs.sequencer.Sequencer.plan.Goals as goal

pub returns-in_err-planned-clause-promise : goal.returns-in_err-planned-clause-promise
returns-in_err-planned-clause-promise g c =
    keeps_on (g.P.Plant.meaning c.args.self.now.plant.below) (g.met.P.Plant.lawful c.args.self.now.plant.below) (state_of c.args.self.now) (plan c.args.target c.args.bound (length c.args.records.now)) _ (search rules)

pub returns-clause-promise : goal.returns-clause-promise
returns-clause-promise g c =
    keeps_on (g.P.Plant.meaning c.args.self.now.plant.below) (g.met.P.Plant.lawful c.args.self.now.plant.below) (state_of c.args.self.now) (plan c.args.target c.args.bound (length c.args.records.now)) _ (search rules)
