-- The length of a sheet and the byte of a fault have 16 bits, so that the number for C can be taken apart. Assumes nothing.
use Rattle.std.proofs.Common.{◌≡◌, ℕ, suc, ◌+◌, ◌*◌, ◌/◌, ◌%◌, ◌<◌, ◌≤◌, Bool, true, false, cond, eqb, List, [], ◌∷◌, length, Some, None, Ok, Err, Option, Result, sym, refl, ap, ◌∙◌, arith}
use Rattle.std.specs.Option.{option_map}
use Rattle.sheet.specs.Steps.{Steps, all_sound}
use Rattle.sheet.proofs.Lengths.{length_sheet}
use Rattle.sheet_reader.proofs.ReadBack.{sounds_short}
use Rattle.faults.specs.declared.fault.ContentsFault.{ContentsFault}
use Rattle.faults.specs.declared.fault.ContentsFault.TheVariants as contents
use Rattle.faults.specs.declared.fault.FileFault.{FileFault}
use Rattle.faults.specs.declared.fault.FileFault.TheVariants.{TooShort, TooLong, Contents, Body, ShortSheet}
use Rattle.faults.specs.Told.{layer_code, layer_of, contents_number, number_of, byte_of}
use Rattle.fault_code.specs.Codes.{code_of}
use Rattle.fault_code.proofs.FileBytes.{byte_fits}
use Rattle.file.specs.declared.kind.Reader.TheVariants.{AllKinds}
use Rattle.file.specs.Parts.{Part}
use Rattle.file.specs.Read.{entries, parts, read_fault}
use Rattle.file.proofs.Acceptance.{accepted, head_numbers}
use Rattle.book.specs.Book.{steps_from, no_book, book_fault_in, book_fault}
use Rattle.book.proofs.EntryByEntry.{entries_are}
use Rattle.book_sheet.specs.Sheets.{complete}
use Rattle.book_to_sheet.specs.Code.{Sixteen, one_number, Tells}

-- at most 64 sound bodies make a short sheet
pub sheet_short : (bs : List Steps) → all_sound bs ≡ true → length bs ≤ 64 → length (complete bs) ≤ 65535
sheet_short bs sound few = omega (arith, length_sheet (length bs) bs, sounds_short bs sound, few)

-- a steps body is one of the entries
steps_within : (i : ℕ) (es : List Part) (k : ℕ) → steps_from i es ≡ Some k → k < i + length es
steps_within i [] k e = cc
steps_within i (x ∷ es) k e = by (λ rest. steps_within (suc i) es k rest) (eqb x.kind 4) refl
  where
    by : (steps_from (suc i) es ≡ Some k → k < suc i + length es) → (b : Bool) → eqb x.kind 4 ≡ b → k < i + suc (length es)
    by behind true is = let here : i ≡ k = (let same : Some i ≡ Some k = sym (ap (λ b. cond b (Some i) (steps_from (suc i) es)) is) ∙ e in cc) in omega arith
    by behind false is = let r = behind (sym (ap (λ b. cond b (Some i) (steps_from (suc i) es)) is) ∙ e) in omega arith

-- the byte of a book's first fault
no_book_byte : (o : Option ℕ) (f : FileFault) → ((k : ℕ) → o ≡ Some k → k ≤ 64) → Some f ≡ option_map no_book o → byte_of f ≤ 65535
no_book_byte None f few e = cc
no_book_byte (Some k) f few e = let same : byte_of f ≡ 2 + 4 * k = ap byte_of (let g : f ≡ no_book k = cc in g) in omega (arith, same, few k refl)

book_byte_by : (book : List ℕ) (f : FileFault) (o : Option FileFault) → read_fault AllKinds book ≡ o → Some f ≡ book_fault_in o book → byte_of f ≤ 65535
book_byte_by book f (Some g) h e = byte_fits f AllKinds book (h ∙ sym e)
book_byte_by book f None h e =
    let few = (head_numbers (length book) (entries book) _ (accepted AllKinds book h).head).2 in
    no_book_byte (steps_from 0 (parts book)) f (λ k s. omega (arith, steps_within 0 (parts book) k s, entries_are None book, few)) e

pub book_byte : (book : List ℕ) (f : FileFault) → Some f ≡ book_fault book → byte_of f ≤ 65535
book_byte book f e = book_byte_by book f (read_fault AllKinds book) refl e

-- the number of a fault has 8 bits, and its layer is at least 1
contents_few : (f : ContentsFault) → contents_number f < 256
contents_few contents.Entries = omega arith
contents_few contents.HeadZero = omega arith
contents_few (contents.Kind i) = omega arith
contents_few (contents.RowZero i) = omega arith
contents_few (contents.NoBook i) = omega arith

number_few : (f : FileFault) → (number_of f < 256) × (1 ≤ layer_code (layer_of f))
number_few (TooShort n) = (omega arith, omega arith)
number_few (TooLong n) = (omega arith, omega arith)
number_few (Contents f) = (contents_few f, omega arith)
number_few (Body f) = (omega arith, omega arith)
number_few (ShortSheet n) = (omega arith, omega arith)

taken_apart : (l n b r : ℕ) → r ≡ 65536 * (256 * l + n) + b → 1 ≤ l → n < 256 → b ≤ 65535 → (65536 ≤ r) × ((r / 65536) / 256 ≡ l) × ((r / 65536) % 256 ≡ n) × (r % 65536 ≡ b)
taken_apart l n b r is low few short =
    let upper : r / 65536 ≡ 256 * l + n = omega arith in
    (omega arith, omega arith, omega arith, omega arith)

pub code_tells : (x : Result ℕ FileFault) → Sixteen x → Tells x (one_number x)
code_tells (Ok n) short = (omega arith, refl)
code_tells (Err f) short = taken_apart (layer_code (layer_of f)) (number_of f) (byte_of f) (code_of f) refl (number_few f).1 (number_few f).0 short
