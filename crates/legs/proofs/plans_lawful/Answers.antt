-- The laws of plans are proved in `PlanLaws`.
use Rattle.legs.proofs.PlanLaws.{plans_lawful}
use Rattle.legs.proofs.plans_lawful.Goals as goal

pub returns : goal.returns
returns c = plans_lawful
