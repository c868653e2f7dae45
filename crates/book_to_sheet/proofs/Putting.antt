-- What the sheet makes of the answer to one entry. Assumes nothing.
use Rattle.std.proofs.lemmas.List.{append-nil}
use Rattle.std.proofs.Common.{ℕ, List, Some, None, Ok, Option, sym, refl, subst}
use Rattle.sheet.specs.Steps.{Steps}
use Rattle.sheet.specs.States.{State, Written}
use Rattle.book_to_sheet.specs.Told.{ToldIf}
use Rattle.book_to_sheet.specs.Filled.{EntryPut}

-- where there is nothing to be told, nothing is put
pub nothing_put : (o : Option Steps) (s : State) (buffer : List ℕ) → ToldIf o None → EntryPut o s s buffer buffer (Ok tt)
nothing_put None s buffer t = (refl, λ bs rest w. subst (λ xs. Written s buffer xs rest) (sym (append-nil bs)) w)
nothing_put (Some b) s buffer t = absurd t
