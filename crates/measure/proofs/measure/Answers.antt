-- The laws of legs hold over the meaning of every plant.
use Rattle.legs.proofs.Laws.{legs_lawful}
use Rattle.legs.proofs.PlanLaws.{plans_lawful}
use Rattle.measure.proofs.measure.Goals as goal

pub returns-in-Ok-clause-laws : goal.returns-in-Ok-clause-laws
returns-in-Ok-clause-laws g c = legs_lawful (g.P.Plant.meaning c.args.plant.now) (g.met.P.Plant.lawful c.args.plant.now)

pub returns-in-Ok-clause-least : goal.returns-in-Ok-clause-least
returns-in-Ok-clause-least g c = (plans_lawful (g.P.Plant.meaning c.args.plant.now) (g.met.P.Plant.lawful c.args.plant.now)).measures

pub returns-in-Err-clause-laws : goal.returns-in-Err-clause-laws
returns-in-Err-clause-laws g c = legs_lawful (g.P.Plant.meaning c.args.plant.now) (g.met.P.Plant.lawful c.args.plant.now)

pub returns-in-Err-clause-least : goal.returns-in-Err-clause-least
returns-in-Err-clause-least g c = (plans_lawful (g.P.Plant.meaning c.args.plant.now) (g.met.P.Plant.lawful c.args.plant.now)).measures
