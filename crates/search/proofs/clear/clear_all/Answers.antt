-- Every record is what the closure gives.
use Rattle.std.proofs.Common.{replicate, ap, ◌∙◌, rules}
use Rattle.search.proofs.Blanks.{all_blank}
use Rattle.search.proofs.clear.clear_all.Goals as goal

pub returns : goal.returns
returns g c =
    let ran = c.fill_with.ensures.ran in
    all_blank _ _ g.R.Record.blank (λ x f' k. search rules) c.fill_with.new.self ran.0 ran.1
    ∙ ap (λ n. replicate n g.R.Record.blank) c.fill_with.ensures.len
