-- The leg is refused, or its length is where it ended.
use Rattle.std.proofs.Common.{Some, sym, ap, ◌∙◌, subst, arith}
use Rattle.legs.specs.Kinds.{Tells}
use Rattle.legs.specs.Layers.{In, layer}
use Rattle.legs.proofs.Need.{need_one}
use Rattle.search.specs.Records.{kind}
use Rattle.legs.specs.Asked.{asked}
use Rattle.search.specs.Walked.{AtEnd}
use Rattle.search.proofs.Answering.{length_hit}
use Rattle.search.proofs.leg_search.search_within.Goals as goal

pub returns-then-records-eq0-clause-answer : goal.returns-then-records-eq0-clause-answer
returns-then-records-eq0-clause-answer g c =
    omega (arith, c.if-records-eq0.true, need_one (g.P.Plant.meaning c.args.task.plant.now) (asked c.args.task.leg))

pub returns-in_ok-record-in-Ok-clause-answer : goal.returns-in_ok-record-in-Ok-clause-answer
returns-in_ok-record-in-Ok-clause-answer g c =
    let m = g.P.Plant.meaning c.args.task.plant.now in
    let h = c.args.task.half in
    let k = kind g.R.Record.tells g.R.Record.opens g.R.Record.carries h in
    let t : Tells k = record { begins = g.met.R.Record.opened; arrives = g.met.R.Record.carried h } in
    let l = asked c.args.task.leg in
    let ran = c.in-Ok.ensures in
    let r = c.in_ok-record-in-Ok.record in
    let at : AtEnd m k l (Some r) = subst (λ o. AtEnd m k l o) c.in_ok-record-in-Ok.ensures.ok_part ran.5 in (
      ran.3,
      length_hit m k t l r at ∙ ap Some (sym ran.0),
      ran.1,
      (subst (λ n. In r (layer m k l n)) (sym ran.0) at.0, at.1),
    )
