-- What is left leads from here to where all leads from the start.
use Rattle.std.proofs.Common.{◌≡◌, drop}
use Rattle.plant.specs.Follow.{after}
use Rattle.plant.proofs.follow.walk.Given as goal

abbrev pub invariant-loop-operation : goal.invariant-loop-operation
invariant-loop-operation g l = after (g.P.Plant.meaning l.plant) l.setting (drop l.operation-index l.operations) ≡ after (g.P.Plant.meaning l.plant) l.start l.operations
