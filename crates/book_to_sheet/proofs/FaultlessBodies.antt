-- A book is a file of all kinds without a fault, and the body of a bench or a track in it has none. Assumes nothing.
use Rattle.std.proofs.Common.{◌≡◌, ℕ, ◌+◌, List, Some, None, ap, ◌∙◌, arith}
use Rattle.std.specs.List.{slice_get}
use Rattle.file.specs.declared.kind.Reader.TheVariants.{AllKinds}
use Rattle.file.specs.Parts.{Part, part_fault}
use Rattle.file.specs.Read.{rows, parts, read_fault}
use Rattle.file.proofs.Acceptance.{accepted, neither, none_from}
use Rattle.book.specs.declared.read.Book.{Book}
use Rattle.book.specs.Book.{book_fault}
use Rattle.book.specs.Held.{book_bytes}
use Rattle.book_sheet.proofs.JobByJob.{none_at, valves_none, track_none}
use Rattle.book_to_sheet.specs.Entries.{BodyFaultless}

pub book_none : (b : Book) → book_fault (book_bytes b) ≡ None
book_none b = none_from (book_fault (book_bytes b)) b.faultless

pub book_read : (b : Book) → read_fault AllKinds (book_bytes b) ≡ None
book_read b = (neither (read_fault AllKinds (book_bytes b)) _ (book_none b)).0

module _ (book : List ℕ) (n : ℕ) (x : Part) (h : read_fault AllKinds book ≡ None) (there : slice_get (parts book) n ≡ Some x) where
  body_none : part_fault (rows book) n x ≡ None
  body_none = ap (λ i. part_fault (rows book) i x) (let z : n ≡ 0 + n = omega arith in z) ∙ none_at (rows book) 0 (parts book) n x (accepted AllKinds book h).bodies there

  pub body_faultless : BodyFaultless x
  body_faultless = record { bench = valves_none (rows book) n x body_none; track = track_none (rows book) n x body_none }
