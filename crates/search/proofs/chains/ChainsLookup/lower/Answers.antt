-- The settings of the records that stay are those behind the first ones.
use Rattle.std.proofs.Common.{◌≡◌, ◌-◌, map, length, take, drop, sym, ap, ◌∙◌, subst, arith, length-drop}
use Rattle.std.proofs.lemmas.List.{drop-map, take_all}
use Rattle.search.specs.Chained.{Follows}
use Rattle.search.proofs.chains.ChainsLookup.lower.Goals as goal

pub returns : goal.returns
returns g c =
    λ follows.
    let tells = g.R.Record.tells in
    let rs = c.args.records.now in
    let gone = c.args.gone in
    let whole : take (length rs - gone) (drop gone rs) ≡ drop gone rs = take_all (length rs - gone) (drop gone rs) (omega (arith, length-drop gone rs)) in
    subst (λ ss. Follows c.link_again.new.self ss) (ap (map tells) whole ∙ sym (drop-map tells gone rs)) (c.link_again.ensures (map tells rs) follows)
