-- The first record that passes the test, if any.
use Rattle.std.proofs.Common.{eqb, sym, ◌∙◌, subst, rules, tests}
use Rattle.std.proofs.lemmas.Iterator.{YieldsList-from_slice}
use Rattle.std.proofs.lemmas.Iterator.Search.{find_from_yields_List}
use Rattle.search.specs.Stored.{store_of, present_records}
use Rattle.search.specs.Walked.{Hit}
use Rattle.search.proofs.Scanning.{find_hit}
use Rattle.search.proofs.search.Search.record_of.Goals as goal

pub returns : goal.returns
returns g c =
    let tells = g.R.Record.tells in
    let u = c.args.setting in
    let rs = present_records (store_of c.args.self.now) in
    let found = find_from_yields_List (λ x. eqb (tells x) u) _ _ _ c.find.ensures.ran (YieldsList-from_slice rs cc) (λ x b q k. search (rules, tests)) in
    subst (Hit tells rs u) (sym (c.copied.ensures ∙ found)) (find_hit tells rs u)
