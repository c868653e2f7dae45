-- The leg ran to its end in the store that these records made.
use Rattle.std.proofs.Common.{◌≡◌, [], drop, Some, None, sym, ap, ◌∙◌, subst, arith, rules}
use Rattle.std.specs.Result.{result_ok}
use Rattle.legs.specs.Kinds.{Tells}
use Rattle.legs.specs.Legs.{need, sizes, most_room}
use Rattle.legs.proofs.Need.{need_one}
use Rattle.search.specs.Records.{kind}
use Rattle.legs.specs.Asked.{asked}
use Rattle.search.specs.Stored.{store_of}
use Rattle.search.specs.Walked.{Ran, RunThrough}
use Rattle.search.proofs.Turns.{drop_further}
use Rattle.search.proofs.Walking.{hit_at_end, same_behind}
use Rattle.search.proofs.one_leg.walk_leg.Goals as goal

pub returns-in_err-begin : goal.returns-in_err-begin
returns-in_err-begin g c =
    let m = g.P.Plant.meaning c.args.task.plant.now in
    let k = kind g.R.Record.tells g.R.Record.opens g.R.Record.carries c.args.task.half in
    let l = asked c.args.task.leg in
    let none = c.in_err-begin.ensures.none in
    let failed : result_ok c.from_residual.result ≡ None = search rules in
    subst (RunThrough m k l c.args.records.now _) (sym failed) (omega (arith, none, need_one m l))

pub returns : goal.returns
returns g c =
    let m = g.P.Plant.meaning c.args.task.plant.now in
    let lawful = g.met.P.Plant.lawful c.args.task.plant.now in
    let tells = g.R.Record.tells in
    let h = c.args.task.half in
    let k = kind tells g.R.Record.opens g.R.Record.carries h in
    let t : Tells k = record { begins = g.met.R.Record.opened; arrives = g.met.R.Record.carried h } in
    let l = asked c.args.task.leg in
    let first = store_of c.begin.new.self in
    let last = store_of c.run.new.self in
    let begun = c.in_ok-begin.ensures.begun in
    let ran : Ran m k l first last (Some c.in_ok-ended.ended) =
    subst (λ u. Ran (g.P.Plant.meaning u.plant.now) (kind tells g.R.Record.opens g.R.Record.carries u.half) (asked u.leg) first last (Some c.in_ok-ended.ended)) c.begin.ensures.task c.in_ok-ended.ensures.ran in
    let lent = c.run.ensures.lender ∙ c.begin.ensures.lender in
    let w = ran.0 in
    let e = ran.1 in
    let needed : c.in_ok-ended.ended.used ≡ need m l = w.used_is ∙ ap (most_room m l) e in
    let behind = subst (λ n. drop n last.room ≡ drop n first.room) needed w.behind in
    let from_start = drop_further 1 (need m l) first.room c.args.records.now (need_one m l) begun.behind in (
      e,
      w.counted ∙ ap (sizes m l) e,
      needed,
      omega (arith, needed, w.used_fits, begun.long),
      same_behind _ last.room c.args.records.now (need m l) (search rules) (behind ∙ from_start),
      hit_at_end m lawful k t l c.in_ok-ended.ended.depth [] last c.record_of.result w.stands e c.record_of.ensures,
    )
