-- A sequencer is made fresh, and the promise holds of it from then on.
use Rattle.std.proofs.Common.{◌≡◌, [], None, subst, rules}
use Rattle.promise.specs.States.{State, fresh}
use Rattle.promise.specs.Promise.{Holds}
use Rattle.promise.proofs.Promise.{holds_after}
use Rattle.sequencer.proofs.sequencer.Sequencer.new.Goals as goal

pub returns-clause-promise : goal.returns-clause-promise
returns-clause-promise g c =
    let m = g.P.Plant.meaning c.args.plant in
    let made : State = record { setting = 0; tags = c.new.result.tags; list = None } in
    let is : fresh ≡ made = search rules in
    subst (Holds m []) is (holds_after m (g.met.P.Plant.lawful c.args.plant) [])
