-- The answer to the entry with a number, in a book that was read without a fault. Assumes nothing.
use Rattle.std.specs.Prelude.{◌≡◌, ℕ, List, Some, None, Option}
use Rattle.std.specs.List.{slice_get}
use Rattle.sheet.specs.Steps.{Steps}
use Rattle.book.specs.declared.read.Book.{Book}
use Rattle.book.specs.Held.{book_bytes}
use Rattle.plant_bodies.specs.BenchRule.{valves_fault}
use Rattle.plant_bodies.specs.TrackRule.{track_fault}
use Rattle.file.specs.declared.kind.Kind.TheVariants as kind
use Rattle.file.specs.Kinds.{kind_of}
use Rattle.file.specs.Parts.{Part}
use Rattle.file.specs.Read.{parts}
use Rattle.book_sheet.specs.Jobs.{entry_steps}
use Rattle.book_sheet.specs.Sheets.{job_count}

-- the body of a bench or a track has no fault
pub record BodyFaultless (e : Part) : Type 0 where
  pub bench : kind_of e.kind ≡ Some kind.Valves → valves_fault e.bytes ≡ None
  pub track : kind_of e.kind ≡ Some kind.Track → track_fault e.bytes ≡ None

-- the entries of a book
abbrev pub parts_of : Book → List Part
parts_of b = parts (book_bytes b)

-- what an entry adds to the sheet, if it is there and is a job
abbrev pub steps_at : List Part → Option Part → Option Steps
steps_at all None = None
steps_at all (Some e) = entry_steps all e

abbrev pub numbered_steps : List Part → ℕ → Option Steps
numbered_steps all n = steps_at all (slice_get all n)

-- one for the job with a number, and none for any other entry
abbrev pub jobs_of : Option Part → ℕ
jobs_of None = 0
jobs_of (Some e) = job_count (kind_of e.kind)

abbrev pub jobs_at : List Part → ℕ → ℕ
jobs_at all n = jobs_of (slice_get all n)
