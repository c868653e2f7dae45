-- The bytes whose entries are held. Assumes nothing.
use Rattle.std.specs.Prelude.{ℕ, List, Ok, Err, Result}
use Rattle.faults.specs.declared.fault.FileFault.{FileFault}
use Rattle.file.specs.declared.kind.Reader.{Reader}
use Rattle.file.specs.declared.entries.Entries.{Entries}

abbrev pub entries_reader : Entries → Reader
entries_reader e = e.reader

abbrev pub entries_bytes : Entries → List ℕ
entries_bytes e = e.bodies.file.now

-- those of the entries, or these where there is a fault
abbrev pub held_bytes : List ℕ → Result Entries FileFault → List ℕ
held_bytes bytes (Ok e) = entries_bytes e
held_bytes bytes (Err f) = bytes
