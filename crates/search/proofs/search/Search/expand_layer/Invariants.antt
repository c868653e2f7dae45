-- The next layer is filled by the records before this place.
use Rattle.std.proofs.Common.{◌≡◌}
use Rattle.search.specs.Records.{kind}
use Rattle.legs.specs.Asked.{asked}
use Rattle.search.specs.Stored.{store_of, Kept}
use Rattle.search.specs.Stands.{Stands, filled_by}
use Rattle.search.proofs.search.Search.expand_layer.Given as goal

abbrev pub invariant-loop-place : goal.invariant-loop-place
invariant-loop-place g l =
    let task = l.initial.self.task in
    let m = g.P.Plant.meaning task.plant.now in
    let k = kind g.R.Record.tells g.R.Record.opens g.R.Record.carries task.half in
    Kept (store_of l.initial.self) (store_of l.self)
    × Stands m k (asked task.leg) l.depth (filled_by m k (asked task.leg) l.depth l.place) (store_of l.self)
    × (l.self.task ≡ task)
    × (l.self.room.ghost_name ≡ l.initial.self.room.ghost_name)
