-- The state follows from the call by the rules, so the promise is kept.
use Rattle.std.proofs.Common.{rules}
use Rattle.promise.specs.Calls.{hand_move}
use Rattle.promise.proofs.Promise.{keeps_on}
use Rattle.sequencer.specs.State.{state_of}
use Rattle.sequencer.proofs.sequencer.Sequencer.hand_move.Goals as goal

pub returns-then-setting-settings-clause-promise : goal.returns-then-setting-settings-clause-promise
returns-then-setting-settings-clause-promise g c =
    keeps_on (g.P.Plant.meaning c.args.self.now.plant.below) (g.met.P.Plant.lawful c.args.self.now.plant.below) (state_of c.args.self.now) (hand_move c.args.setting) _ (search rules)

pub returns-clause-promise : goal.returns-clause-promise
returns-clause-promise g c =
    keeps_on (g.P.Plant.meaning c.args.self.now.plant.below) (g.met.P.Plant.lawful c.args.self.now.plant.below) (state_of c.args.self.now) (hand_move c.args.setting) _ (search rules)
