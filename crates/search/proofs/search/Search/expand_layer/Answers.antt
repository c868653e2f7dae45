-- Each record is one turn.
use Rattle.std.proofs.Common.{◌≡◌, ◌+◌, ◌<◌, true, false, sym, ◌∙◌, subst, rules}
use Rattle.std.specs.Result.{is_ok}
use Rattle.legs.specs.Legs.{room}
use Rattle.search.specs.Records.{kind}
use Rattle.legs.specs.Asked.{asked}
use Rattle.search.specs.Stands.{Expanded, Completed}
use Rattle.search.specs.Stored.{store_of}
use Rattle.search.proofs.Turns.{kept_on}
use Rattle.search.proofs.search.Search.expand_layer.Goals as goal

pub returns-in_err-expand_record-clause-completed : goal.returns-in_err-expand_record-clause-completed
returns-in_err-expand_record-clause-completed g c =
    let task = c.args.self.now.task in
    let m = g.P.Plant.meaning task.plant.now in
    let tells = g.R.Record.tells in
    let k = kind tells g.R.Record.opens g.R.Record.carries task.half in
    let l = asked task.leg in
    let d = c.args.depth in
    let s = store_of c.args.self.now in
    let place = c.loop-place.place in
    let now-s = store_of c.loop-place.self in
    let got = subst (λ u. Expanded (g.P.Plant.meaning u.plant.now) (kind tells g.R.Record.opens g.R.Record.carries u.half) (asked u.leg) d (place + 1) now-s (store_of c.expand_record.new.self) false) c.loop-place.invariant.2 c.in_err-expand_record.ensures.expanded in
    let kept = kept_on s now-s (store_of c.expand_record.new.self) c.loop-place.invariant.0 got.0 in
    let failed : is_ok c.from_residual.result ≡ false = search rules in
    subst (Completed m k l d s (store_of c.expand_record.new.self)) (sym failed) (kept, subst (λ n. n < room m l d) c.loop-place.invariant.0.long got.1)

pub loop-place-preserved : goal.loop-place-preserved
loop-place-preserved g c =
    let task = c.args.self.now.task in
    let m = g.P.Plant.meaning task.plant.now in
    let tells = g.R.Record.tells in
    let k = kind tells g.R.Record.opens g.R.Record.carries task.half in
    let l = asked task.leg in
    let d = c.args.depth in
    let s = store_of c.args.self.now in
    let place = c.loop-place.place in
    let now-s = store_of c.loop-place.self in
    let got = subst (λ u. Expanded (g.P.Plant.meaning u.plant.now) (kind tells g.R.Record.opens g.R.Record.carries u.half) (asked u.leg) d (place + 1) now-s (store_of c.expand_record.new.self) true) c.loop-place.invariant.2 c.in_ok-expand_record.ensures.expanded in
    let kept = kept_on s now-s (store_of c.expand_record.new.self) c.loop-place.invariant.0 got.0 in
    (kept, got.1, c.expand_record.ensures.task ∙ c.loop-place.invariant.2, c.expand_record.ensures.lender ∙ c.loop-place.invariant.3)
