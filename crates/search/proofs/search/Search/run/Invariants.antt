-- The leg has come to this depth without ending.
use Rattle.std.proofs.Common.{◌≡◌, ◌-◌}
use Rattle.search.specs.Records.{kind}
use Rattle.legs.specs.Asked.{asked}
use Rattle.search.specs.Walked.{Walked}
use Rattle.search.specs.Stored.{store_of}
use Rattle.search.proofs.search.Search.run.Given as goal

abbrev pub invariant-loop-self : goal.invariant-loop-self
invariant-loop-self g l =
    let task = l.initial.self.task in
    let m = g.P.Plant.meaning task.plant.now in
    let k = kind g.R.Record.tells g.R.Record.opens g.R.Record.carries task.half in
    Walked m k (asked task.leg) (store_of l.initial.self) (store_of l.self) l.depth l.expanded l.used
    × (l.self.task ≡ task)
    × (l.self.room.ghost_name ≡ l.initial.self.room.ghost_name)

abbrev pub decreases-loop-self : goal.decreases-loop-self
decreases-loop-self g l = l.initial.self.task.leg.bound - l.depth
