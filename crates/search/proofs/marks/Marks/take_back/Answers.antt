-- One record a turn.
use Rattle.std.proofs.Common.{◌+◌, ◌++◌, map, drop, sym, ◌∙◌, subst, arith}
use lib.ListN.{length-map}
use Rattle.search.specs.Marked.{Follows}
use Rattle.search.proofs.Scanning.{told_here}
use Rattle.search.proofs.Marking.{next_first}
use Rattle.search.proofs.marks.Marks.take_back.Goals as goal

pub loop-record-preserved : goal.loop-record-preserved
loop-record-preserved g c =
    λ ss follows.
    let tells = g.R.Record.tells in
    let rs = c.args.records.now in
    let i = c.loop-record.record-index in
    let told = told_here tells rs i c.record-item.result c.loop-record-test.true c.record-item.is ∙ sym c.setting.ensures in
    let first = next_first (map tells rs) i c.setting.result (omega (arith, c.loop-record-test.true, length-map rs tells)) told in
    c.turn.ensures.unmarks (drop (i + 1) (map tells rs) ++ ss) (subst (λ xs. Follows c.loop-record.self (xs ++ ss)) first (c.loop-record.invariant ss follows))
