-- What becomes of an open sheet while the answers to the jobs of a book are put on it. Assumes nothing.
use Rattle.std.specs.Prelude.{◌≡◌, ℕ, ◌<◌, ◌≤◌, true, List, [], ◌++◌, length, drop, is_some, Some, Ok, Err, Option, Result}
use Rattle.sheet.specs.declared.refusal.SheetRefusal.{SheetRefusal}
use Rattle.sheet.specs.Steps.{Steps, keeps_rule, all_sound}
use Rattle.sheet.specs.Bytes.{bodies_length}
use Rattle.sheet.specs.States.{State, Written, put_refusal}
use Rattle.file.specs.Read.{parts}
use Rattle.book_sheet.specs.Sheets.{put, jobs_in, book_steps, sheet_of}

-- the body stands behind those before it, or the sheet refuses it
abbrev pub BodyPut : Steps → State → State → List ℕ → List ℕ → Result (Unit {0}) SheetRefusal → Type 0
BodyPut b s s' buffer buffer' (Ok u) =
    (s'.declared ≡ s.declared)
    × ((bs : List Steps) (rest : List ℕ) → Written s buffer bs rest → Written s' buffer' (bs ++ put (Some b) []) (drop (bodies_length (put (Some b) [])) rest))
BodyPut b s s' buffer buffer' (Err e) = is_some (put_refusal s b (length buffer)) ≡ true

-- the body, if there is one, stands behind those before it; or there is one, and the sheet refuses it
abbrev pub EntryPut : Option Steps → State → State → List ℕ → List ℕ → Result (Unit {0}) SheetRefusal → Type 0
EntryPut o s s' buffer buffer' (Ok u) =
    (s'.declared ≡ s.declared)
    × ((bs : List Steps) (rest : List ℕ) → Written s buffer bs rest → Written s' buffer' (bs ++ put o []) (drop (bodies_length (put o [])) rest))
EntryPut o s s' buffer buffer' (Err e) =
    (b : Steps) × (o ≡ Some b) × (keeps_rule b ≡ true) × (is_some (put_refusal s b (length buffer)) ≡ true)

-- a sheet that is opened for the jobs of the book has all their answers; or the buffer is too short for that
abbrev pub Filled : List ℕ → State → State → List ℕ → List ℕ → Result (Unit {0}) SheetRefusal → Type 0
Filled book s s' buffer buffer' (Ok u) =
    (rest : List ℕ) → Written s buffer [] rest → s.declared ≡ jobs_in (parts book) →
    (s'.declared ≡ s.declared) × Written s' buffer' (book_steps book) (drop (bodies_length (book_steps book)) rest)
Filled book s s' buffer buffer' (Err e) =
    (rest : List ℕ) → Written s buffer [] rest → s.declared ≡ jobs_in (parts book) →
    (length buffer < length (sheet_of book)) × (length buffer ≤ 65535)

-- the sheet stands at the front of the buffer, and what is behind it is as it was; or the buffer is too short for it
abbrev pub SheetWritten : List ℕ → List ℕ → List ℕ → Result ℕ SheetRefusal → Type 0
SheetWritten book buffer buffer' (Ok n) =
    (n ≡ length (sheet_of book)) × (buffer' ≡ sheet_of book ++ drop n buffer) × (n ≤ length buffer) × (all_sound (book_steps book) ≡ true)
SheetWritten book buffer buffer' (Err e) = (length buffer < length (sheet_of book)) × (length buffer ≤ 65535)
