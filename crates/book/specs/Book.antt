-- The first fault of a book. Assumes nothing.
use Rattle.std.specs.Prelude.{ℕ, suc, Bool, false, cond, List, [], ◌∷◌, Some, None, Option, ◌==◌}
use Rattle.std.specs.Option.{option_map}
use Rattle.faults.specs.declared.fault.ContentsFault.TheVariants.{NoBook}
use Rattle.faults.specs.declared.fault.FileFault.{FileFault}
use Rattle.faults.specs.declared.fault.FileFault.TheVariants.{Contents}
use Rattle.file.specs.declared.kind.Reader.TheVariants.{AllKinds}
use Rattle.file.specs.Parts.{Part}
use Rattle.file.specs.Read.{parts, or_else, read_fault}

abbrev pub is_steps : Option Part → Bool
is_steps None = false
is_steps (Some e) = e.kind == 4

-- the first steps body of these entries, of which the first is entry i
abbrev pub steps_from : ℕ → List Part → Option ℕ
steps_from i [] = None
steps_from i (e ∷ es) = cond (e.kind == 4) (Some i) (steps_from (suc i) es)

-- the entries of a file; none where it has a fault
abbrev pub entries_in : Option FileFault → List ℕ → List Part
entries_in (Some f) file = []
entries_in None file = parts file

abbrev pub first_steps : Option FileFault → List ℕ → Option ℕ
first_steps fault file = steps_from 0 (entries_in fault file)

abbrev pub no_book : ℕ → FileFault
no_book i = Contents (NoBook i)

-- the file's first fault, or else its first steps body
abbrev pub book_fault_in : Option FileFault → List ℕ → Option FileFault
book_fault_in fault file = or_else fault (option_map no_book (first_steps fault file))

abbrev pub book_fault : List ℕ → Option FileFault
book_fault file = or_else (read_fault AllKinds file) (option_map no_book (first_steps (read_fault AllKinds file) file))
