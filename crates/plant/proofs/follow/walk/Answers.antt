-- One operation a turn.
use Rattle.std.proofs.Common.{◌+◌, drop, sym, ap, ◌∙◌}
use Rattle.std.specs.Option.{option_and_then}
use Rattle.plant.specs.Follow.{after}
use Rattle.plant.proofs.Leading.{after_more, after_all}
use Rattle.plant.proofs.follow.walk.Goals as goal

pub returns-in_err-setting : goal.returns-in_err-setting
returns-in_err-setting g c =
    let m = g.P.Plant.meaning c.args.plant.now in
    let os = c.args.operations.now in
    let i = c.loop-operation.operation-index in
    c.from_residual.ensures
    ∙ (sym (after_more m c.loop-operation.setting os i c.loop-operation-test.true
    ∙ ap (option_and_then (λ u. after m u (drop (i + 1) os))) (sym c.step.ensures ∙ c.in_err-setting.was)) ∙ c.loop-operation.invariant)

pub loop-operation-preserved : goal.loop-operation-preserved
loop-operation-preserved g c =
    let m = g.P.Plant.meaning c.args.plant.now in
    let os = c.args.operations.now in
    let i = c.loop-operation.operation-index in
    sym (after_more m c.loop-operation.setting os i c.loop-operation-test.true
    ∙ ap (option_and_then (λ u. after m u (drop (i + 1) os))) (sym c.step.ensures ∙ c.in_ok-setting.was)) ∙ c.loop-operation.invariant

pub returns : goal.returns
returns g c =
    sym (after_all (g.P.Plant.meaning c.args.plant.now) c.loop-operation.setting c.args.operations.now c.loop-operation.operation-index c.loop-operation-test.false)
    ∙ c.loop-operation.invariant
