-- Each operation is one turn.
use Rattle.std.proofs.Common.{◌≡◌, ◌+◌, ◌<◌, true, false, get_or, take, drop, sym, ap, ◌∙◌, subst, add-one, arith, rules}
use Rattle.std.specs.Result.{is_ok}
use Rattle.legs.specs.Kinds.{Tells}
use Rattle.legs.specs.Layers.{layer}
use Rattle.legs.specs.Legs.{room}
use Rattle.legs.specs.Filling.{filled, filled_more}
use Rattle.legs.proofs.Filling.{filled_ends}
use Rattle.search.specs.Records.{kind}
use Rattle.legs.specs.Asked.{asked}
use Rattle.search.specs.Offered.{arriving, Taken}
use Rattle.search.specs.Stored.{store_of}
use Rattle.search.specs.Stands.{Stands, filled_by, Expanded}
use Rattle.search.proofs.Turns.{kept_on, turn, no_place, in_layer, layer_split, one_record}
use Rattle.search.proofs.search.Search.expand_record.Goals as goal

pub returns-in_err-attempt-clause-expanded : goal.returns-in_err-attempt-clause-expanded
returns-in_err-attempt-clause-expanded g c =
    let task = c.args.self.now.task in
    let m = g.P.Plant.meaning task.plant.now in
    let lawful = g.met.P.Plant.lawful task.plant.now in
    let tells = g.R.Record.tells in
    let h = task.half in
    let k = kind tells g.R.Record.opens g.R.Record.carries h in
    let t : Tells k = record { begins = g.met.R.Record.opened; arrives = g.met.R.Record.carried h } in
    let l = asked task.leg in
    let d = c.args.depth in
    let s = store_of c.args.self.now in
    let place = c.args.place in
    let r = get_or s.room (s.before + place) c.index-self-at.result in
    let read = ap (λ x. get_or s.room (s.before + place) x) c.index-self-at.is in
    let now-s = store_of c.loop-operation.self in
    let o = c.loop-operation.operation in
    let took = subst (λ u. Taken now-s (store_of c.attempt.new.self) (arriving tells (g.P.Plant.meaning u.plant.now) (asked u.leg) (d + 1) (g.R.Record.carries u.half (d + 1) r) now-s ((g.P.Plant.meaning u.plant.now).step (tells r) o)) false) c.loop-operation.invariant.2 c.in_err-attempt.ensures.taken in
    let at = subst (λ x. Taken now-s (store_of c.attempt.new.self) (arriving tells m l x (g.R.Record.carries h x r) now-s (m.step (tells r) o)) false) (add-one d) took in
    let here = in_layer m lawful k t l d place s (filled_by m k l d place) r c.requires.stands c.requires.place c.args.self.now.within read in
    let split = layer_split m lawful k t l d place s (filled_by m k l d place) r c.requires.stands c.requires.place c.args.self.now.within read in
    let below : o < m.operations = subst (λ n. o < n) c.operations-operation-end.ensures c.loop-operation-test.true in
    let few = no_place m lawful k t l d (take place (layer m k l d)) r here now-s (store_of c.attempt.new.self) (drop (place + 1) (layer m k l d)) o split below c.loop-operation.invariant.1 at in
    let failed : is_ok c.from_residual.result ≡ false = search rules in
    subst (Expanded m k l d (place + 1) s (store_of c.attempt.new.self)) (sym failed) (kept_on s now-s (store_of c.attempt.new.self) c.loop-operation.invariant.0 at.0, subst (λ n. n < room m l d) c.loop-operation.invariant.0.long few)

pub loop-operation-preserved : goal.loop-operation-preserved
loop-operation-preserved g c =
    let task = c.args.self.now.task in
    let m = g.P.Plant.meaning task.plant.now in
    let lawful = g.met.P.Plant.lawful task.plant.now in
    let tells = g.R.Record.tells in
    let h = task.half in
    let k = kind tells g.R.Record.opens g.R.Record.carries h in
    let t : Tells k = record { begins = g.met.R.Record.opened; arrives = g.met.R.Record.carried h } in
    let l = asked task.leg in
    let d = c.args.depth in
    let s = store_of c.args.self.now in
    let place = c.args.place in
    let r = get_or s.room (s.before + place) c.index-self-at.result in
    let read = ap (λ x. get_or s.room (s.before + place) x) c.index-self-at.is in
    let now-s = store_of c.loop-operation.self in
    let o = c.loop-operation.operation in
    let took = subst (λ u. Taken now-s (store_of c.attempt.new.self) (arriving tells (g.P.Plant.meaning u.plant.now) (asked u.leg) (d + 1) (g.R.Record.carries u.half (d + 1) r) now-s ((g.P.Plant.meaning u.plant.now).step (tells r) o)) true) c.loop-operation.invariant.2 c.in_ok-attempt.ensures.taken in
    let at = subst (λ x. Taken now-s (store_of c.attempt.new.self) (arriving tells m l x (g.R.Record.carries h x r) now-s (m.step (tells r) o)) true) (add-one d) took in
    let here = in_layer m lawful k t l d place s (filled_by m k l d place) r c.requires.stands c.requires.place c.args.self.now.within read in
    let next = turn m lawful k t l d (take place (layer m k l d)) r here now-s (store_of c.attempt.new.self) o c.loop-operation.invariant.1 at in (
      kept_on s now-s (store_of c.attempt.new.self) c.loop-operation.invariant.0 at.0,
      subst (λ n. Stands m k l d (filled_more m k l d (take place (layer m k l d)) r n) (store_of c.attempt.new.self)) (sym (add-one o)) next,
      c.attempt.ensures.task ∙ c.loop-operation.invariant.2,
      c.attempt.ensures.lender ∙ c.loop-operation.invariant.3,
    )

pub returns-clause-expanded : goal.returns-clause-expanded
returns-clause-expanded g c =
    let task = c.args.self.now.task in
    let m = g.P.Plant.meaning task.plant.now in
    let lawful = g.met.P.Plant.lawful task.plant.now in
    let tells = g.R.Record.tells in
    let h = task.half in
    let k = kind tells g.R.Record.opens g.R.Record.carries h in
    let t : Tells k = record { begins = g.met.R.Record.opened; arrives = g.met.R.Record.carried h } in
    let l = asked task.leg in
    let d = c.args.depth in
    let s = store_of c.args.self.now in
    let place = c.args.place in
    let r = get_or s.room (s.before + place) c.index-self-at.result in
    let read = ap (λ x. get_or s.room (s.before + place) x) c.index-self-at.is in
    let now-s = store_of c.loop-operation.self in
    let o = c.loop-operation.operation in
    let all : o ≡ m.operations = omega (arith, c.operations-operation-end.ensures, c.loop-operation-test.false, c.loop-operation.auto.operation-end) in
    let rs = take place (layer m k l d) in
    let one = one_record m lawful k t l d place s (filled_by m k l d place) r c.requires.stands c.requires.place c.args.self.now.within read in
    let filled-now = ap (filled_more m k l d rs r) all ∙ filled_ends m k l d rs r ∙ ap (filled m k l d) (sym one) in
    (c.loop-operation.invariant.0, subst (λ xs. Stands m k l d xs now-s) filled-now c.loop-operation.invariant.1)
