-- One record a turn.
use Rattle.std.proofs.Common.{◌<◌, map, length, take, sym, ◌∙◌, subst, arith}
use lib.ListN.{length-map}
use Rattle.std.proofs.lemmas.List.{take_all, length-take-le}
use Rattle.search.specs.Chained.{Follows}
use Rattle.search.proofs.Scanning.{told_here}
use Rattle.search.proofs.Chaining.{entered_more}
use Rattle.search.proofs.chains.Chains.link_again.Goals as goal

pub loop-place-preserved : goal.loop-place-preserved
loop-place-preserved g c =
    λ ss follows.
    let tells = g.R.Record.tells in
    let rs = c.args.records.now in
    let i = c.loop-place.place in
    let told = told_here tells rs i c.index-records-place.result c.loop-place-test.true c.index-records-place.is ∙ sym c.setting.ensures in
    let inside : i < length (map tells rs) = omega (arith, c.loop-place-test.true, length-map rs tells) in
    let linked = c.link.ensures (take i (map tells rs)) (length-take-le i (map tells rs) (omega (arith, inside))) (c.loop-place.invariant ss follows) in
    subst (λ xs. Follows c.link.new.self xs) (sym (entered_more (map tells rs) i c.setting.result inside told)) linked

pub returns : goal.returns
returns g c =
    λ ss follows.
    let ts = map g.R.Record.tells c.args.records.now in
    let all = take_all c.loop-place.place ts (omega (arith, length-map c.args.records.now g.R.Record.tells, c.loop-place-test.false)) in
    subst (λ xs. Follows c.loop-place.self xs) all (c.loop-place.invariant ss follows)
