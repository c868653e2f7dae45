-- What a file that was read tells. Assumes nothing.
use Rattle.std.specs.Prelude.{◌≡◌, ℕ, List, length, take, drop, Some, None, Option}
use Rattle.std.specs.List.{slice_get}
use Rattle.std.specs.Result.{result_err}
use Rattle.faults.specs.declared.fault.FileFault.{FileFault}
use Rattle.file.specs.declared.kind.Reader.{Reader}
use Rattle.file.specs.declared.file.File.{File}
use Rattle.file.specs.declared.kind.Kind.{Kind}
use Rattle.file.specs.declared.kind.Kind.TheVariants as kind
use Rattle.file.specs.declared.body.Body.{Body}
use Rattle.file.specs.declared.entry.Entry.{Entry}
use Rattle.file.specs.declared.entry.Entry.TheVariants.{Valves, Track, Job, Steps}
use Rattle.file.specs.Parts.{Part, part}
use Rattle.file.specs.Read.{entries, parts}

abbrev pub file_reader : File → Reader
file_reader f = f.reader

abbrev pub file_bytes : File → List ℕ
file_bytes f = f.bytes.now

abbrev pub file_fault : File → Option FileFault
file_fault f = result_err f.entries

-- the entry with a number, from 0; none of a file with a fault
abbrev pub entry_of : Option FileFault → List ℕ → ℕ → Option Part
entry_of (Some f) file n = None
entry_of None file n = slice_get (parts file) n

abbrev pub entries_of : Option FileFault → List ℕ → ℕ
entries_of (Some f) file = 0
entries_of None file = entries file

-- the kind byte, the place and the body of an entry
abbrev pub as_part : Entry → Part
as_part (Valves p b) = part 1 p b.now
as_part (Track p b) = part 2 p b.now
as_part (Job p b) = part 3 p b.now
as_part (Steps p b) = part 4 p b.now

abbrev pub seen : Option Entry → Option Part
seen None = None
seen (Some e) = Some (as_part e)

-- an entry is the part of the file that begins at its place
abbrev pub StandsIn : List ℕ → Option Part → Type 0
StandsIn file None = Unit {0}
StandsIn file (Some e) = e.bytes ≡ take (length e.bytes) (drop e.place file)

-- a body of this kind as an entry, and none of no kind
abbrev pub body_seen : Option Kind → ℕ → List ℕ → Option Part
body_seen None p bs = None
body_seen (Some kind.Valves) p bs = Some (part 1 p bs)
body_seen (Some kind.Track) p bs = Some (part 2 p bs)
body_seen (Some kind.Job) p bs = Some (part 3 p bs)
body_seen (Some kind.Steps) p bs = Some (part 4 p bs)

abbrev pub BodySeen : Body → Option Entry → Type 0
BodySeen b r = seen r ≡ body_seen b.kind b.place b.bytes.now
