-- The sheet of sound bodies has no fault and reads back as them. Assumes nothing.
use Rattle.std.proofs.Common.{◌≡◌, ℕ, suc, ◌+◌, ◌-◌, ◌*◌, ◌≤◌, true, cond, not, eqb, ltb, List, [], ◌∷◌, ◌++◌, map, length, take, drop, Some, None, refl, ap, ◌∙◌, arith, length-append}
use Rattle.std.specs.List.{flat_map}
use Rattle.std.specs.Option.{option_map}
use Rattle.std.proofs.lemmas.List.{take_at, drop_at}
use Rattle.std.proofs.lemmas.Bool.{and_parts}
use Rattle.std.proofs.lemmas.Bool.Decides.{nat_tests}
use Rattle.numbers.proofs.Laws.{value_low}
use Rattle.sheet.specs.Steps.{Steps, go_together, keeps_rule, fits, sound, all_sound}
use Rattle.sheet.specs.Bytes.{body_bytes, body_length, row_bytes, zeros, sheet_bytes, bodies_length}
use Rattle.sheet.proofs.Lengths.{length_body, length_rows, length_bodies}
use Rattle.bodies.proofs.StepsLaws.{written_accepted, written_read}
use Rattle.faults.specs.declared.fault.BodyFault.TheVariants as body
use Rattle.faults.specs.declared.fault.ContentsFault.TheVariants as contents
use Rattle.faults.specs.declared.fault.FileFault.TheVariants.{TooShort, TooLong, Contents, Body}
use Rattle.file.specs.declared.kind.Reader.TheVariants.{StepsAlone}
use Rattle.file.specs.Contents.{row_length, rows_fault, rows_length}
use Rattle.file.specs.Parts.{Part, part, parts_from, parts_fault, first_fault}
use Rattle.file.specs.Read.{entries, rows, parts, bodies_fault, contents_then, head_fault, length_fault, or_else, read_fault}
use Rattle.sheet_reader.specs.Laws.{said, bodies_in, ReadsBack}

-- a sound body has at most 520 bytes
pub rule_short : (a n k : ℕ) → go_together a n k ≡ true → k ≤ 255
rule_short a n k h = grind (arith, nat_tests)

pub sound_short : (b : Steps) → sound b ≡ true → body_length b ≤ 520
sound_short b h =
    let k : length b.operations ≤ 255 = rule_short b.answer b.count (length b.operations) (and_parts (keeps_rule b) (fits b) h).0 in
    omega arith

pub sounds_short : (bs : List Steps) → all_sound bs ≡ true → bodies_length bs ≤ 520 * length bs
sounds_short [] h = omega arith
sounds_short (b ∷ bs) h =
    let p = and_parts (sound b) (all_sound bs) h in
    let s : body_length b ≤ 520 = sound_short b p.0 in
    let r : bodies_length bs ≤ 520 * length bs = sounds_short bs p.1 in
    omega arith

-- the row of a sound body tells its length
pub row_tells : (b : Steps) (rest : List ℕ) → sound b ≡ true → row_length (row_bytes b ++ rest) ≡ body_length b
row_tells b rest h = let s : body_length b ≤ 520 = sound_short b h in value_low 2 (body_length b) (omega arith)

-- the rows have no fault, and tell the lengths of the bodies
pub rows_right : (bs : List Steps) (i : ℕ) (rest : List ℕ) → rows_fault StepsAlone (length bs) i (flat_map row_bytes bs ++ rest) ≡ None
rows_right [] i rest = refl
rows_right (b ∷ bs) i rest = rows_right bs (suc i) rest

pub rows_tell : (bs : List Steps) (rest : List ℕ) → all_sound bs ≡ true → rows_length (length bs) (flat_map row_bytes bs ++ rest) ≡ bodies_length bs
rows_tell [] rest h = refl
rows_tell (b ∷ bs) rest h =
    let p = and_parts (sound b) (all_sound bs) h in
    let t : row_length (row_bytes b ++ (flat_map row_bytes bs ++ rest)) ≡ body_length b = row_tells b (flat_map row_bytes bs ++ rest) p.0 in
    let r : rows_length (length bs) (flat_map row_bytes bs ++ rest) ≡ bodies_length bs = rows_tell bs rest p.1 in
    ap (λ n. n + rows_length (length bs) (flat_map row_bytes bs ++ rest)) t ∙ ap (λ n. body_length b + n) r

-- the entries of a sheet, from some body on
abbrev pub sheet_parts : List Steps → ℕ → List Part
sheet_parts [] p = []
sheet_parts (b ∷ bs) p = part 4 p (body_bytes b) ∷ sheet_parts bs (p + body_length b)

pub parts_are : (bs : List Steps) (rest : List ℕ) (p : ℕ) → all_sound bs ≡ true →
    parts_from (length bs) (flat_map row_bytes bs ++ rest) p (flat_map body_bytes bs) ≡ sheet_parts bs p
parts_are [] rest p h = refl
parts_are (b ∷ bs) rest p h =
    let q = and_parts (sound b) (all_sound bs) h in
    let rs : List ℕ = flat_map row_bytes bs ++ rest in
    let t : row_length (row_bytes b ++ rs) ≡ body_length b = row_tells b rs q.0 in
    let f : take (body_length b) (body_bytes b ++ flat_map body_bytes bs) ≡ body_bytes b = take_at (body_bytes b) (flat_map body_bytes bs) (body_length b) (length_body b) in
    let g : drop (body_length b) (body_bytes b ++ flat_map body_bytes bs) ≡ flat_map body_bytes bs = drop_at (body_bytes b) (flat_map body_bytes bs) (body_length b) (length_body b) in
    ap (λ n. part 4 p (take n (body_bytes b ++ flat_map body_bytes bs)) ∷ parts_from (length bs) rs (p + n) (drop n (body_bytes b ++ flat_map body_bytes bs))) t
    ∙ (ap (λ bytes. part 4 p bytes ∷ parts_from (length bs) rs (p + body_length b) (drop (body_length b) (body_bytes b ++ flat_map body_bytes bs))) f
    ∙ (ap (λ bytes. part 4 p (body_bytes b) ∷ parts_from (length bs) rs (p + body_length b) bytes) g
    ∙ ap (λ es. part 4 p (body_bytes b) ∷ es) (parts_are bs rest (p + body_length b) q.1)))

-- they have no fault and say what was written
pub parts_right : (bs : List Steps) (rs : List ℕ) (i p : ℕ) → all_sound bs ≡ true → parts_fault rs i (sheet_parts bs p) ≡ None
parts_right [] rs i p h = refl
parts_right (b ∷ bs) rs i p h =
    let q = and_parts (sound b) (all_sound bs) h in
    ap (λ o. first_fault (option_map (body.Steps p) o) (parts_fault rs (suc i) (sheet_parts bs (p + body_length b)))) (written_accepted b q.0)
    ∙ parts_right bs rs (suc i) (p + body_length b) q.1

pub parts_say : (bs : List Steps) (p : ℕ) → all_sound bs ≡ true → map said (sheet_parts bs p) ≡ bs
parts_say [] p h = refl
parts_say (b ∷ bs) p h =
    let q = and_parts (sound b) (all_sound bs) h in
    ap (λ c. c ∷ map said (sheet_parts bs (p + body_length b))) (written_read b q.0) ∙ ap (λ cs. b ∷ cs) (parts_say bs (p + body_length b) q.1)

-- a complete sheet has no free row
abbrev pub complete : List Steps → List ℕ
complete bs = length bs ∷ (0 ∷ (flat_map row_bytes bs ++ flat_map body_bytes bs))

pub complete_is : (bs : List Steps) → sheet_bytes (length bs) bs ≡ complete bs
complete_is bs =
    let z : 4 * (length bs - length bs) ≡ 0 = omega arith in
    ap (λ k. length bs ∷ (0 ∷ (flat_map row_bytes bs ++ (zeros k ++ flat_map body_bytes bs)))) z

pub length_complete : (bs : List Steps) → length (complete bs) ≡ 2 + (4 * length bs + bodies_length bs)
length_complete bs =
    let a : length (flat_map row_bytes bs ++ flat_map body_bytes bs) ≡ length (flat_map row_bytes bs) + length (flat_map body_bytes bs) = length-append (flat_map row_bytes bs) (flat_map body_bytes bs) in
    omega (arith, length_rows bs, length_bodies bs)

pub bodies_of_complete : (bs : List Steps) → drop (2 + 4 * length bs) (complete bs) ≡ flat_map body_bytes bs
bodies_of_complete bs =
    drop_at (length bs ∷ (0 ∷ flat_map row_bytes bs)) (flat_map body_bytes bs) (2 + 4 * length bs) (omega (arith, length_rows bs))

-- the stages of reading it
head_right : (n e z : ℕ) → n ≤ 65535 → e ≤ 64 → z ≡ 0 → 2 + 4 * e ≤ n →
    cond (ltb 65535 n) (Some (TooLong 65535)) (cond (ltb n 2) (Some (TooShort n)) (cond (ltb 64 e) (Some (Contents contents.Entries))
    (cond (not (eqb z 0)) (Some (Contents contents.HeadZero)) (cond (ltb n (2 + 4 * e)) (Some (TooShort n)) None)))) ≡ None
head_right n e z a b d f = grind (arith, nat_tests)

length_right : (n t : ℕ) → t ≡ n → cond (ltb n t) (Some (TooShort n)) (cond (ltb t n) (Some (TooLong t)) None) ≡ None
length_right n t h = grind (arith, nat_tests)

pub complete_head : (bs : List Steps) → length bs ≤ 64 → all_sound bs ≡ true → head_fault (complete bs) ≡ None
complete_head bs h s =
    let l : length (complete bs) ≡ 2 + (4 * length bs + bodies_length bs) = length_complete bs in
    let m : bodies_length bs ≤ 520 * length bs = sounds_short bs s in
    head_right (length (complete bs)) (length bs) 0 (omega arith) h refl (omega arith)

pub complete_whole : (bs : List Steps) → all_sound bs ≡ true → length_fault (complete bs) ≡ None
complete_whole bs s =
    let l : length (complete bs) ≡ 2 + (4 * length bs + bodies_length bs) = length_complete bs in
    let t : rows_length (length bs) (flat_map row_bytes bs ++ flat_map body_bytes bs) ≡ bodies_length bs = rows_tell bs (flat_map body_bytes bs) s in
    length_right (length (complete bs)) ((2 + 4 * length bs) + rows_length (length bs) (flat_map row_bytes bs ++ flat_map body_bytes bs)) (omega arith)

pub complete_parts : (bs : List Steps) → all_sound bs ≡ true → parts (complete bs) ≡ sheet_parts bs (2 + 4 * length bs)
complete_parts bs s =
    ap (parts_from (length bs) (flat_map row_bytes bs ++ flat_map body_bytes bs) (2 + 4 * length bs)) (bodies_of_complete bs)
    ∙ parts_are bs (flat_map body_bytes bs) (2 + 4 * length bs) s

pub complete_read : (bs : List Steps) → length bs ≤ 64 → all_sound bs ≡ true → read_fault StepsAlone (complete bs) ≡ None
complete_read bs h s =
    let file : List ℕ = complete bs in
    let b : bodies_fault file ≡ None = ap (parts_fault (rows file) 0) (complete_parts bs s) ∙ parts_right bs (rows file) 0 (2 + 4 * length bs) s in
    ap (λ o. or_else o (contents_then (rows_fault StepsAlone (entries file) 0 (rows file)) (or_else (length_fault file) (option_map Body (bodies_fault file))))) (complete_head bs h s)
    ∙ (ap (λ o. contents_then o (or_else (length_fault file) (option_map Body (bodies_fault file)))) (rows_right bs 0 (flat_map body_bytes bs))
    ∙ (ap (λ o. or_else o (option_map Body (bodies_fault file))) (complete_whole bs s)
    ∙ ap (option_map Body) b))

-- the law
pub reads_back : (file : List ℕ) → ReadsBack file (read_fault StepsAlone file)
reads_back file bs h s e =
    let f : file ≡ complete bs = e ∙ complete_is bs in (
      ap (read_fault StepsAlone) f ∙ complete_read bs h s,
      ap bodies_in f ∙ (ap (map said) (complete_parts bs s) ∙ parts_say bs (2 + 4 * length bs) s),
    )
