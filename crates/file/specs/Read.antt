-- Which file is accepted, as which entries, and which fault is given otherwise. Assumes nothing.
use Rattle.std.specs.Prelude.{ℕ, ◌+◌, ◌*◌, cond, not, List, length, drop, Some, None, Ok, Err, Option, Result, ◌==◌, nat_lt, slice_index}
use Rattle.std.specs.Option.{option_map}
use Rattle.faults.specs.declared.fault.BodyFault.{BodyFault}
use Rattle.faults.specs.declared.fault.ContentsFault.{ContentsFault}
use Rattle.faults.specs.declared.fault.ContentsFault.TheVariants as contents
use Rattle.faults.specs.declared.fault.FileFault.{FileFault}
use Rattle.faults.specs.declared.fault.FileFault.TheVariants.{TooShort, TooLong, Contents, Body}
use Rattle.file.specs.declared.kind.Reader.{Reader}
use Rattle.file.specs.Contents.{rows_fault, rows_length}
use Rattle.file.specs.Parts.{Part, parts_from, parts_fault}

-- how many entries there are, and where the rows and the bodies begin
abbrev pub entries : List ℕ → ℕ
entries file = slice_index file 0

abbrev pub rows : List ℕ → List ℕ
rows file = drop 2 file

abbrev pub contents_end : List ℕ → ℕ
contents_end file = 2 + 4 * entries file

-- the length that the contents tell
abbrev pub told_length : List ℕ → ℕ
told_length file = contents_end file + rows_length (entries file) (rows file)

-- the entries
abbrev pub parts : List ℕ → List Part
parts file = parts_from (entries file) (rows file) (contents_end file) (drop (contents_end file) file)

abbrev pub bodies_fault : List ℕ → Option BodyFault
bodies_fault file = parts_fault (rows file) 0 (parts file)

-- the first fault of contents, or else a later one
abbrev pub contents_then : Option ContentsFault → Option FileFault → Option FileFault
contents_then None g = g
contents_then (Some f) g = Some (Contents f)

-- the head: over 65,535 bytes, under 2 bytes, byte 0, byte 1, contents complete
abbrev pub head_fault : List ℕ → Option FileFault
head_fault file =
    cond (nat_lt 65535 (length file)) (Some (TooLong 65535))
    (cond (nat_lt (length file) 2) (Some (TooShort (length file)))
    (cond (nat_lt 64 (entries file)) (Some (Contents contents.Entries))
    (cond (not (slice_index file 1 == 0)) (Some (Contents contents.HeadZero))
    (cond (nat_lt (length file) (contents_end file)) (Some (TooShort (length file))) None))))

-- the total length
abbrev pub length_fault : List ℕ → Option FileFault
length_fault file =
    cond (nat_lt (length file) (told_length file)) (Some (TooShort (length file)))
    (cond (nat_lt (told_length file) (length file)) (Some (TooLong (told_length file))) None)

-- one after another
abbrev pub or_else : Option FileFault → Option FileFault → Option FileFault
or_else None g = g
or_else (Some f) g = Some f

-- the first fault of a file: head, each row in order, total length, each body in order
abbrev pub read_fault : Reader → List ℕ → Option FileFault
read_fault r file =
    or_else (head_fault file)
    (contents_then (rows_fault r (entries file) 0 (rows file))
    (or_else (length_fault file)
    (option_map Body (bodies_fault file))))

-- the checks before the bodies
abbrev pub contents_fault : Reader → List ℕ → Option FileFault
contents_fault r file = or_else (head_fault file) (contents_then (rows_fault r (entries file) 0 (rows file)) (length_fault file))

-- what a reader makes of a file
abbrev pub answer : Option FileFault → List Part → Result (List Part) FileFault
answer None es = Ok es
answer (Some f) es = Err f

abbrev pub read : Reader → List ℕ → Result (List Part) FileFault
read r file = answer (read_fault r file) (parts file)
