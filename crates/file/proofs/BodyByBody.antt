-- The entries whose bodies are left, one by one. Assumes nothing.
use Rattle.std.proofs.Common.{List, length, zero, suc, refl, ◌≡◌, ℕ, ◌+◌, ◌≤◌, drop, Some, None, Option, sym, ap, ◌∙◌, subst, arith}
use Rattle.std.proofs.lemmas.List.{drop-drop}
use Rattle.std.proofs.lemmas.Option.{slice_get_past}
use Rattle.std.specs.List.{slice_get}
use Rattle.file.specs.declared.body.Body.{Body}
use Rattle.file.specs.declared.body.Bodies.{Bodies}
use Rattle.file.specs.declared.row.Row.{Row}
use Rattle.file.specs.declared.row.Rows.{Rows}
use Rattle.file.specs.Contents.{row_length}
use Rattle.file.specs.Parts.{Part, parts_from}
use Rattle.file.specs.Taken.{parts_left, RowParts, BodyParts, BodyIs}

-- those behind the first, by its row
pub behind_row : (s rest : Rows) (row : Row) → RowParts s row rest → (p q : ℕ) (file : List ℕ) (k : ℕ) → q ≡ p + row.length →
    slice_get (parts_from rest.left rest.bytes.now q (drop q file)) k ≡ slice_get (parts_from s.left s.bytes.now p (drop p file)) (suc k)
behind_row s rest row t p q file k e =
    let more = ap (λ e. slice_get (parts_from e s.bytes.now p (drop p file)) (suc k)) t.left in
    let far = drop-drop (row_length s.bytes.now) p file in
    cc

-- the first is the body that is taken
pub first_is : (s rest : Bodies) (b : Body) (o : Option Part) → BodyParts s b rest → slice_get (parts_left s) 0 ≡ o → BodyIs o (Some b)
first_is s rest b o t h =
    subst (λ (x : Option Part). BodyIs x (Some b)) (sym (ap (λ e. slice_get (parts_from e s.rows.bytes.now s.place (drop s.place s.file.now)) 0) t.left) ∙ h)
    (record { kind = t.kind; place = t.place; bytes = t.bytes })

-- there are as many entries as rows
pub length_parts : (e : ℕ) (rs : List ℕ) (p : ℕ) (bs : List ℕ) → length (parts_from e rs p bs) ≡ e
length_parts zero rs p bs = refl
length_parts (suc e) rs p bs = ap (λ n. suc n) (length_parts e (drop 4 rs) (p + row_length rs) (drop (row_length rs) bs))

-- there is none behind the last
pub none_past : (s : Bodies) (k : ℕ) → s.rows.left ≤ k → slice_get (parts_left s) k ≡ None
none_past s k h =
    let many = length_parts s.rows.left s.rows.bytes.now s.place (drop s.place s.file.now) in
    slice_get_past (parts_left s) k (omega (arith, many))
