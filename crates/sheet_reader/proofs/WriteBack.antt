-- A sheet without a fault is the one that its bodies write. Assumes nothing.
use Rattle.std.proofs.Common.{◌≡◌, ℕ, zero, suc, ◌+◌, ◌*◌, ◌<◌, ◌≤◌, Bool, true, false, cond, eqb, List, [], ◌∷◌, ◌++◌, map, length, take, drop, Some, None, sym, refl, ap, ◌∙◌, arith, length-drop, take-append-drop}
use Rattle.std.specs.List.{flat_map}
use Rattle.std.proofs.lemmas.List.{length-map, length-take-le}
use Rattle.std.proofs.lemmas.Bool.{eqb-true, false≢true}
use Rattle.numbers.specs.Low.{low, value, Bytes}
use Rattle.numbers.proofs.Laws.{low_value, bytes_take, bytes_drop}
use Rattle.sheet.specs.Steps.{Steps}
use Rattle.sheet.specs.Bytes.{body_bytes, body_length, row_bytes}
use Rattle.sheet.proofs.Lengths.{length_body}
use Rattle.bodies.specs.StepsRule.{steps_fault}
use Rattle.bodies.specs.StepsRead.{steps_of}
use Rattle.bodies.proofs.StepsLaws.{accepted_written}
use Rattle.faults.specs.declared.fault.BodyFault.TheVariants as body
use Rattle.file.specs.declared.kind.Kind.TheVariants as kind
use Rattle.file.specs.declared.kind.Reader.TheVariants.{StepsAlone}
use Rattle.file.specs.Kinds.{kind_of, takes, takes_kind}
use Rattle.file.specs.Contents.{rows_fault, rows_length}
use Rattle.file.specs.Parts.{parts_from, parts_fault, kind_fault}
use Rattle.file.specs.Read.{parts, read_fault}
use Rattle.file.proofs.BodyByBody.{length_parts}
use Rattle.file.proofs.Acceptance.{Accepted, accepted, head_numbers, length_numbers, neither_body, none_mapped, row_parts}
use Rattle.sheet_reader.specs.Laws.{said, bodies_in, WritesBack}
use Rattle.sheet_reader.proofs.ReadBack.{complete, complete_is}

-- the one kind that a sheet takes
pub taken_steps : (k : ℕ) → takes StepsAlone k ≡ true → k ≡ 4
taken_steps k h = four (eqb k 1) (eqb k 2) (eqb k 3) (eqb k 4) refl h where
  four : (a b c d : Bool) → eqb k 4 ≡ d →
      takes_kind StepsAlone (cond a (Some kind.Valves) (cond b (Some kind.Track) (cond c (Some kind.Job) (cond d (Some kind.Steps) None)))) ≡ true → k ≡ 4
  four true b c d e h = absurd (false≢true h)
  four false true c d e h = absurd (false≢true h)
  four false false true d e h = absurd (false≢true h)
  four false false false true e h = eqb-true k 4 e
  four false false false false e h = absurd (false≢true h)

-- a body without a fault has the length that its row tells
pub body_row : (bs : List ℕ) (lo hi : ℕ) → Bytes bs → lo < 256 → hi < 256 → steps_fault bs ≡ None → length bs ≡ value (lo ∷ (hi ∷ [])) →
    row_bytes (steps_of bs) ≡ 4 ∷ (0 ∷ (lo ∷ (hi ∷ [])))
body_row bs lo hi b l h f e =
    let n : body_length (steps_of bs) ≡ value (lo ∷ (hi ∷ [])) = sym (length_body (steps_of bs)) ∙ (ap length (accepted_written bs b f) ∙ e) in
    ap (λ k. 4 ∷ (0 ∷ low 2 k)) n ∙ ap (λ t. 4 ∷ (0 ∷ t)) (low_value (lo ∷ (hi ∷ [])) (l, (h, tt)))

-- rows and bodies without a fault are those of what they say
pub record WrittenBy (e : ℕ) (rs bs : List ℕ) (said-by : List Steps) : Type 0 where
  pub rows : take (4 * e) rs ≡ flat_map row_bytes said-by
  pub bodies : bs ≡ flat_map body_bytes said-by

pub rows_and_bodies : (e : ℕ) (rs bs all : List ℕ) (i p : ℕ) → Bytes rs → Bytes bs → 4 * e ≤ length rs → rows_length e rs ≡ length bs →
    rows_fault StepsAlone e i rs ≡ None → parts_fault all i (parts_from e rs p bs) ≡ None → WrittenBy e rs bs (map said (parts_from e rs p bs))
rows_and_bodies zero rs [] all i p br bb l t f g = record { rows = refl; bodies = refl }
rows_and_bodies zero rs (b ∷ bs) all i p br bb l t f g = absurd (omega arith)
rows_and_bodies (suc e) [] bs all i p br bb l t f g = absurd (omega arith)
rows_and_bodies (suc e) (k ∷ []) bs all i p br bb l t f g = absurd (omega arith)
rows_and_bodies (suc e) (k ∷ (z ∷ [])) bs all i p br bb l t f g = absurd (omega arith)
rows_and_bodies (suc e) (k ∷ (z ∷ (lo ∷ []))) bs all i p br bb l t f g = absurd (omega arith)
rows_and_bodies (suc e) (k ∷ (z ∷ (lo ∷ (hi ∷ rs)))) bs all i p br bb l t f g =
    let n : ℕ = value (lo ∷ (hi ∷ [])) in
    let q = row_parts StepsAlone e i (k ∷ (z ∷ (lo ∷ (hi ∷ rs)))) f in
    let four : k ≡ 4 = taken_steps k q.0 in
    let u = neither_body (kind_fault all i (kind_of k) p (take n bs)) (parts_fault all (suc i) (parts_from e rs (p + n) (drop n bs))) g in
    let s : steps_fault (take n bs) ≡ None = none_mapped (body.Steps p) (steps_fault (take n bs)) (sym (ap (λ j. kind_fault all i (kind_of j) p (take n bs)) four) ∙ u.0) in
    let m : length (take n bs) ≡ n = length-take-le n bs (omega arith) in
    let d : rows_length e rs ≡ length (drop n bs) = rw length-drop (omega arith) in
    let r = rows_and_bodies e rs (drop n bs) all (suc i) (p + n) br.1.1.1.1 (bytes_drop n bs bb) (omega arith) d q.2 u.1 in
    let row : row_bytes (steps_of (take n bs)) ≡ 4 ∷ (0 ∷ (lo ∷ (hi ∷ []))) = body_row (take n bs) lo hi (bytes_take n bs bb) br.1.1.0 br.1.1.1.0 s m in
    let w : 4 * suc e ≡ suc (suc (suc (suc (4 * e)))) = omega arith in
    record {
      rows =
          ap (λ j. take j (k ∷ (z ∷ (lo ∷ (hi ∷ rs))))) w
          ∙ (ap (λ j. j ∷ (z ∷ (lo ∷ (hi ∷ take (4 * e) rs)))) four
          ∙ (ap (λ j. 4 ∷ (j ∷ (lo ∷ (hi ∷ take (4 * e) rs)))) q.1
          ∙ (ap (λ t. (4 ∷ (0 ∷ (lo ∷ (hi ∷ [])))) ++ t) r.rows
          ∙ ap (λ t. t ++ flat_map row_bytes (map said (parts_from e rs (p + n) (drop n bs)))) (sym row))));
      bodies =
          sym (take-append-drop n bs)
          ∙ (ap (λ t. take n bs ++ t) r.bodies
          ∙ ap (λ t. t ++ flat_map body_bytes (map said (parts_from e rs (p + n) (drop n bs)))) (sym (accepted_written (take n bs) (bytes_take n bs bb) s)));
    }

-- the law
pub written_back : (file : List ℕ) → Bytes file → Accepted StepsAlone file → file ≡ complete (bodies_in file)
written_back [] b a = absurd (omega (arith, (head_numbers 0 0 0 a.head).1))
written_back (e ∷ []) b a = absurd (omega (arith, (head_numbers 1 e 0 a.head).1))
written_back (e ∷ (z ∷ rs)) b a =
    let file : List ℕ = e ∷ (z ∷ rs) in
    let h = head_numbers (length file) e z a.head in
    let zero_is : z ≡ 0 = h.3 in
    let there : 2 + 4 * e ≤ length file = h.4 in
    let whole : (2 + 4 * e) + rows_length e rs ≡ length file = length_numbers (length file) ((2 + 4 * e) + rows_length e rs) a.whole in
    let n : 2 + 4 * e ≡ suc (suc (4 * e)) = omega arith in
    let d : drop (2 + 4 * e) file ≡ drop (4 * e) rs = ap (λ k. drop k file) n in
    let t : rows_length e rs ≡ length (drop (2 + 4 * e) file) = rw length-drop (omega arith) in
    let r = rows_and_bodies e rs (drop (2 + 4 * e) file) rs 0 (2 + 4 * e) b.1.1 (bytes_drop (2 + 4 * e) file b) (omega arith) t a.contents a.bodies in
    let k : length (bodies_in file) ≡ e = length-map (parts file) said ∙ length_parts e rs (2 + 4 * e) (drop (2 + 4 * e) file) in
    ap (λ t. e ∷ (z ∷ t)) (sym (take-append-drop (4 * e) rs))
    ∙ (ap (λ t. e ∷ (z ∷ (t ++ drop (4 * e) rs))) r.rows
    ∙ (ap (λ t. e ∷ (z ∷ (flat_map row_bytes (bodies_in file) ++ t))) (sym d ∙ r.bodies)
    ∙ (ap (λ j. e ∷ (j ∷ (flat_map row_bytes (bodies_in file) ++ flat_map body_bytes (bodies_in file)))) zero_is
    ∙ ap (λ j. j ∷ (0 ∷ (flat_map row_bytes (bodies_in file) ++ flat_map body_bytes (bodies_in file)))) (sym k))))

pub writes_back : (file : List ℕ) → Bytes file → WritesBack file (read_fault StepsAlone file)
writes_back file b h = written_back file b (accepted StepsAlone file h) ∙ sym (complete_is (bodies_in file))
