-- Rows and bodies of which none is taken yet. Assumes nothing.
use Rattle.std.specs.Prelude.{◌≡◌, ℕ, List}
use Rattle.file.specs.declared.row.Rows.{Rows}
use Rattle.file.specs.declared.body.Bodies.{Bodies}
use Rattle.file.specs.Read.{entries, rows, contents_end}

-- all rows of a file
pub record RowsBegun (file : List ℕ) (s : Rows) : Type 0 where
  pub number : s.number ≡ 0
  pub left : s.left ≡ entries file
  pub bytes : s.bytes.now ≡ rows file

-- all bodies of a file
pub record BodiesBegun (file : List ℕ) (s : Bodies) : Type 0 where
  pub begun : RowsBegun file s.rows
  pub place : s.place ≡ contents_end file
  pub of : s.file.now ≡ file
