-- The contents of a file: rows of four bytes, kind, 0, body length in 16 bits, taken one after another. Assumes nothing.
use Rattle.std.specs.Prelude.{ℕ, zero, suc, ◌+◌, Bool, true, cond, not, ◌&&◌, List, take, drop, is_some, Some, None, Option, ◌==◌, slice_index}
use Rattle.numbers.specs.Low.{value}
use Rattle.faults.specs.declared.fault.ContentsFault.{ContentsFault}
use Rattle.faults.specs.declared.fault.ContentsFault.TheVariants as contents
use Rattle.file.specs.declared.kind.Reader.{Reader}
use Rattle.file.specs.Kinds.{kind_of, takes}

-- of the row with which these bytes begin
abbrev pub row_kind : List ℕ → ℕ
row_kind rs = slice_index rs 0

abbrev pub row_zero : List ℕ → ℕ
row_zero rs = slice_index rs 1

abbrev pub row_length : List ℕ → ℕ
row_length rs = value (take 2 (drop 2 rs))

-- the first fault of e rows, of which the first is row i
abbrev pub rows_fault : Reader → ℕ → ℕ → List ℕ → Option ContentsFault
rows_fault r zero i rs = None
rows_fault r (suc e) i rs =
    cond (not (takes r (row_kind rs))) (Some (contents.Kind i))
    (cond (not (row_zero rs == 0)) (Some (contents.RowZero i))
    (rows_fault r e (suc i) (drop 4 rs)))

-- how many bytes the bodies of e rows take together
abbrev pub rows_length : ℕ → List ℕ → ℕ
rows_length zero rs = 0
rows_length (suc e) rs = row_length rs + rows_length e (drop 4 rs)

-- each of e rows has a kind that there is
abbrev pub known_rows : ℕ → List ℕ → Bool
known_rows zero rs = true
known_rows (suc e) rs = is_some (kind_of (row_kind rs)) && known_rows e (drop 4 rs)
