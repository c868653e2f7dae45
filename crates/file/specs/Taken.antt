-- What it is to take the next row, and the next body. Assumes nothing.
use Rattle.std.specs.Prelude.{◌≡◌, suc, ◌+◌, cond, not, List, take, drop, Some, None, Option, ◌==◌}
use Rattle.faults.specs.declared.fault.ContentsFault.{ContentsFault}
use Rattle.faults.specs.declared.fault.ContentsFault.TheVariants as contents
use Rattle.file.specs.declared.kind.Reader.{Reader}
use Rattle.file.specs.declared.row.Row.{Row}
use Rattle.file.specs.declared.row.Rows.{Rows}
use Rattle.file.specs.declared.body.Body.{Body}
use Rattle.file.specs.declared.body.Bodies.{Bodies}
use Rattle.file.specs.Kinds.{kind_of, takes_kind}
use Rattle.file.specs.Contents.{row_kind, row_zero, row_length}
use Rattle.file.specs.Parts.{Part, parts_from}

-- the row is the first of those that are left, and the others are those behind it
pub record RowParts (s : Rows) (row : Row) (rest : Rows) : Type 0 where
  pub left : s.left ≡ suc rest.left
  pub bytes : rest.bytes.now ≡ drop 4 s.bytes.now
  pub number : row.number ≡ s.number
  pub next : rest.number ≡ suc s.number
  pub kind : row.kind ≡ kind_of (row_kind s.bytes.now)
  pub zero_byte : row.zero ≡ row_zero s.bytes.now
  pub length : row.length ≡ row_length s.bytes.now

abbrev pub RowTaken : Rows → Option (Row × Rows) → Type 0
RowTaken s None = s.left ≡ 0
RowTaken s (Some (row, rest)) = RowParts s row rest

-- what is wrong first with one row
abbrev pub row_fault : Reader → Row → Option ContentsFault
row_fault r row =
    cond (not (takes_kind r row.kind)) (Some (contents.Kind row.number)) (cond (not (row.zero == 0)) (Some (contents.RowZero row.number)) None)

-- the entries whose bodies are left
abbrev pub parts_left : Bodies → List Part
parts_left s = parts_from s.rows.left s.rows.bytes.now s.place (drop s.place s.file.now)

-- the body is the first of those that are left, and the others are those behind it
pub record BodyParts (s : Bodies) (body : Body) (rest : Bodies) : Type 0 where
  pub left : s.rows.left ≡ suc rest.rows.left
  pub rows : rest.rows.bytes.now ≡ drop 4 s.rows.bytes.now
  pub number : body.number ≡ s.rows.number
  pub next : rest.rows.number ≡ suc s.rows.number
  pub kind : body.kind ≡ kind_of (row_kind s.rows.bytes.now)
  pub place : body.place ≡ s.place
  pub bytes : body.bytes.now ≡ take (row_length s.rows.bytes.now) (drop s.place s.file.now)
  pub file : rest.file.now ≡ s.file.now
  pub end : rest.place ≡ s.place + row_length s.rows.bytes.now

abbrev pub BodyTaken : Bodies → Option (Body × Bodies) → Type 0
BodyTaken s None = s.rows.left ≡ 0
BodyTaken s (Some (body, rest)) = BodyParts s body rest

-- a body as the code takes it is that of this entry
pub record IsBody (e : Part) (b : Body) : Type 0 where
  pub kind : b.kind ≡ kind_of e.kind
  pub place : b.place ≡ e.place
  pub bytes : b.bytes.now ≡ e.bytes

abbrev pub BodyIs : Option Part → Option Body → Type 0
BodyIs None None = Unit {0}
BodyIs None (Some b) = ⊥
BodyIs (Some e) None = ⊥
BodyIs (Some e) (Some b) = IsBody e b
