-- The laws of legs are proved in `Laws`.
use Rattle.legs.proofs.Laws.{legs_lawful}
use Rattle.legs.proofs.legs_lawful.Goals as goal

pub returns : goal.returns
returns c = legs_lawful
