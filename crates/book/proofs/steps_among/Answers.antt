-- The search goes through the numbers of all entries.
use Rattle.std.proofs.Common.{◌≡◌, ◌∙◌, true, false, None, sym, rules, tests}
use Rattle.std.specs.List.{slice_get}
use Rattle.std.proofs.lemmas.Iterator.{first_from_Range}
use Rattle.file.specs.Read.{parts}
use Rattle.file.specs.Held.{entries_bytes}
use Rattle.book.specs.Book.{is_steps}
use Rattle.book.proofs.EntryByEntry.{entries_are, steps_found}
use Rattle.book.proofs.steps_among.Goals as goal

pub returns : goal.returns
returns c =
    let file = entries_bytes c.args.entries.now in
    let es = parts file in
    let found = first_from_Range _ _ _ c.find.result (λ k. is_steps (slice_get es k) ≡ true) (λ k. is_steps (slice_get es k) ≡ false) c.find.ensures.ran (λ x q k. search (rules, tests)) (λ x q k. search (rules, tests)) in
    steps_found es c.len.result c.find.result (entries_are None file ∙ sym c.len.ensures) found
