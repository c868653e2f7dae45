-- A tag covers an operation of the list exactly where one of them is the operation or its reverse.
use Rattle.std.proofs.Common.{◌≡◌, ℕ, ◌||◌, ◌==◌, List, [], ◌∷◌, refl, ap, ◌∙◌, rules}
use borrow.Author.Tests.{tests}
use Rattle.std.specs.List.{list_any}
use Rattle.std.proofs.lemmas.Iterator.{YieldsList-from_slice}
use Rattle.std.proofs.lemmas.Iterator.Search.{any_from_yields_List}
use Rattle.plant.specs.Meaning.{Meaning}
use Rattle.promise.specs.Readings.{touches}
use Rattle.sequencer.specs.Table.{work_of}
use Rattle.sequencer.proofs.sequencer.table.Table.touches.Goals as goal

touches_any : (m : Meaning) (o r : ℕ) (os : List ℕ) → r ≡ m.reverse o → list_any (λ p. (p == o) || (p == r)) os ≡ touches m o os
touches_any m o r [] e = refl
touches_any m o r (p ∷ ps) e = ap (λ x. ((p == o) || (p == x)) || list_any (λ q. (q == o) || (q == r)) ps) e ∙ ap (λ b. ((p == o) || (p == m.reverse o)) || b) (touches_any m o r ps e)

pub returns : goal.returns
returns g c =
    any_from_yields_List (λ p. (p == c.args.operation) || (p == c.reverse-reverse.result)) _ _ _ c.any.ensures.ran (YieldsList-from_slice (work_of c.args.self.now).to_do cc) (λ x b q k. search (rules, tests))
    ∙ touches_any (g.P.Plant.meaning c.args.plant.now) c.args.operation c.reverse-reverse.result (work_of c.args.self.now).to_do c.reverse-reverse.ensures
