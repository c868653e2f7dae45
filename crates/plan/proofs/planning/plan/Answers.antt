-- The laws of plans hold over the meaning of every plant.
use Rattle.legs.proofs.PlanLaws.{plans_lawful}
use Rattle.plan.proofs.planning.plan.Goals as goal

pub returns-in-Ok-clause-laws : goal.returns-in-Ok-clause-laws
returns-in-Ok-clause-laws g c = plans_lawful (g.P.Plant.meaning c.args.plant.now) (g.met.P.Plant.lawful c.args.plant.now)

pub returns-in-Err-clause-laws : goal.returns-in-Err-clause-laws
returns-in-Err-clause-laws g c = plans_lawful (g.P.Plant.meaning c.args.plant.now) (g.met.P.Plant.lawful c.args.plant.now)
