-- The first records and those behind them are all.
use Rattle.std.proofs.Common.{map, drop, sym, subst}
use Rattle.search.specs.Marked.{Follows}
use Rattle.search.proofs.Scanning.{front_and_rest}
use Rattle.search.proofs.marks.MarksLookup.lower.Goals as goal

pub returns : goal.returns
returns g c =
    λ follows.
    let tells = g.R.Record.tells in
    let rs = c.args.records.now in
    c.take_back.ensures (drop c.args.gone (map tells rs)) (subst (λ ss. Follows c.args.self.now ss) (sym (front_and_rest tells c.args.gone rs)) follows)
