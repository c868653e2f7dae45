-- What is refused for want of room, whatever the refusal. Assumes nothing.
use Rattle.std.proofs.Common.{◌≡◌, ℕ, ◌<◌, ◌≤◌, List, [], length, Ok, Err, Result}
use Rattle.std.specs.Result.{IsErr}
use Rattle.std.proofs.lemmas.Bool.{false≢true}
use Rattle.sheet.specs.declared.refusal.SheetRefusal.{SheetRefusal}
use Rattle.sheet.specs.States.{State, Written}
use Rattle.file.specs.Read.{parts}
use Rattle.book_sheet.specs.Sheets.{jobs_in, sheet_of}
use Rattle.book_to_sheet.specs.Filled.{Filled, SheetWritten}

pub fill_refused : (book : List ℕ) (s s' : State) (buffer buffer' : List ℕ) (r : Result (Unit {0}) SheetRefusal) → IsErr r →
    ((rest : List ℕ) → Written s buffer [] rest → s.declared ≡ jobs_in (parts book) → (length buffer < length (sheet_of book)) × (length buffer ≤ 65535)) →
    Filled book s s' buffer buffer' r
fill_refused book s s' buffer buffer' (Ok u) h short = absurd (false≢true h)
fill_refused book s s' buffer buffer' (Err e) h short = short

pub sheet_refused : (book buffer buffer' : List ℕ) (r : Result ℕ SheetRefusal) → IsErr r → (length buffer < length (sheet_of book)) × (length buffer ≤ 65535) →
    SheetWritten book buffer buffer' r
sheet_refused book buffer buffer' (Ok n) h short = absurd (false≢true h)
sheet_refused book buffer buffer' (Err e) h short = short
