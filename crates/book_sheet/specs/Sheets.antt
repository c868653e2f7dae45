-- The sheet of a book, and what the call from book to sheet answers and leaves in the buffer. Assumes nothing.
use Rattle.std.specs.Prelude.{ℕ, ◌+◌, cond, List, [], ◌∷◌, ◌++◌, length, drop, Some, None, Ok, Err, Option, Result, nat_lt}
use Rattle.sheet.specs.Steps.{Steps}
use Rattle.sheet.specs.Bytes.{sheet_bytes, zeros}
use Rattle.faults.specs.declared.fault.FileFault.{FileFault}
use Rattle.faults.specs.declared.fault.FileFault.TheVariants.{ShortSheet}
use Rattle.file.specs.declared.kind.Kind.{Kind}
use Rattle.file.specs.declared.kind.Kind.TheVariants as kind
use Rattle.file.specs.Kinds.{kind_of}
use Rattle.file.specs.Parts.{Part}
use Rattle.file.specs.Read.{parts}
use Rattle.book.specs.Book.{book_fault}
use Rattle.book_sheet.specs.Jobs.{entry_steps}

abbrev pub put : Option Steps → List Steps → List Steps
put None bs = bs
put (Some b) bs = b ∷ bs

-- the answers to the jobs among these entries, in their order, where all entries are given first
abbrev pub answers_from : List Part → List Part → List Steps
answers_from all [] = []
answers_from all (e ∷ es) = put (entry_steps all e) (answers_from all es)

-- how many of these entries are jobs
abbrev pub job_count : Option Kind → ℕ
job_count None = 0
job_count (Some kind.Valves) = 0
job_count (Some kind.Track) = 0
job_count (Some kind.Job) = 1
job_count (Some kind.Steps) = 0

abbrev pub jobs_in : List Part → ℕ
jobs_in [] = 0
jobs_in (e ∷ es) = job_count (kind_of e.kind) + jobs_in es

-- the bodies of the sheet of a book
abbrev pub book_steps : List ℕ → List Steps
book_steps book = answers_from (parts book) (parts book)

-- the sheet of these bodies, complete
abbrev pub complete : List Steps → List ℕ
complete bs = sheet_bytes (length bs) bs

abbrev pub sheet_of : List ℕ → List ℕ
sheet_of book = complete (book_steps book)

-- the length of the sheet; or the book's first fault, or else that the buffer is too short, at its length
abbrev pub told : Option FileFault → List ℕ → ℕ → Result ℕ FileFault
told (Some f) sheet room = Err f
told None sheet room = cond (nat_lt room (length sheet)) (Err (ShortSheet room)) (Ok (length sheet))

abbrev pub sheet_told : List ℕ → ℕ → Result ℕ FileFault
sheet_told book room = told (book_fault book) (sheet_of book) room

-- a fault of the book leaves the buffer as it was; a buffer that is too short is left zero; else the sheet stands
-- at the front, and what is behind it is as it was
abbrev pub left : Option FileFault → List ℕ → List ℕ → List ℕ
left (Some f) sheet buffer = buffer
left None sheet buffer = cond (nat_lt (length buffer) (length sheet)) (zeros (length buffer)) (sheet ++ drop (length sheet) buffer)

abbrev pub sheet_left : List ℕ → List ℕ → List ℕ
sheet_left book buffer = left (book_fault book) (sheet_of book) buffer
