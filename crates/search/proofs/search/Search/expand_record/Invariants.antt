-- The next layer is filled by the records before this one and by the operations so far.
use Rattle.std.proofs.Common.{◌≡◌, take}
use Rattle.legs.specs.Layers.{layer}
use Rattle.legs.specs.Filling.{filled_more}
use Rattle.search.specs.Records.{kind}
use Rattle.legs.specs.Asked.{asked}
use Rattle.search.specs.Stored.{store_of, Kept}
use Rattle.search.specs.Stands.{Stands}
use Rattle.search.proofs.search.Search.expand_record.Given as goal

abbrev pub invariant-loop-operation : goal.invariant-loop-operation
invariant-loop-operation g l =
    let task = l.initial.self.task in
    let m = g.P.Plant.meaning task.plant.now in
    let k = kind g.R.Record.tells g.R.Record.opens g.R.Record.carries task.half in
    let leg = asked task.leg in
    Kept (store_of l.initial.self) (store_of l.self)
    × Stands m k leg l.depth (filled_more m k leg l.depth (take l.place (layer m k leg l.depth)) l.from l.operation) (store_of l.self)
    × (l.self.task ≡ task)
    × (l.self.room.ghost_name ≡ l.initial.self.room.ghost_name)
