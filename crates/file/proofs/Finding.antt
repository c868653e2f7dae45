-- The entry with a number, as the code finds it. Assumes nothing.
use Rattle.std.proofs.Common.{◌≡◌, ℕ, zero, suc, ◌+◌, Bool, true, false, cond, eqb, List, [], ◌∷◌, length, take, drop, is_some, Some, None, Option, sym, refl, ap, ◌∙◌, subst}
use Rattle.std.proofs.lemmas.List.{drop-drop}
use Rattle.std.proofs.lemmas.Bool.{and_parts, eqb-true, true≢false, false≢true}
use Rattle.std.specs.List.{slice_get}
use Rattle.file.specs.declared.kind.Kind.TheVariants as kind
use Rattle.file.specs.declared.body.Body.{Body}
use Rattle.file.specs.declared.entries.Entries.{Entries}
use Rattle.file.specs.Kinds.{kind_of}
use Rattle.file.specs.Contents.{row_kind, row_length, known_rows}
use Rattle.file.specs.Parts.{Part, part, parts_from}
use Rattle.file.specs.Taken.{BodyIs, parts_left}
use Rattle.file.specs.Read.{entries, rows, contents_end, parts}
use Rattle.file.specs.Held.{entries_bytes}
use Rattle.file.specs.Files.{StandsIn, body_seen}
use Rattle.file.proofs.Acceptance.{faultless_known}

-- the entries are those of the file
pub parts_are : (s : Entries) → parts_left s.bodies ≡ parts (entries_bytes s)
parts_are s =
    let all = s.all in
    let rows-are = s.rows in
    let begin = s.begin in
    cc

-- the number of a kind that there is
kind_seen : (n p : ℕ) (bs : List ℕ) → is_some (kind_of n) ≡ true → body_seen (kind_of n) p bs ≡ Some (part n p bs)
kind_seen n p bs h = by (eqb n 1) (eqb n 2) (eqb n 3) (eqb n 4) refl refl refl refl h
  where
    by : (a b c d : Bool) → eqb n 1 ≡ a → eqb n 2 ≡ b → eqb n 3 ≡ c → eqb n 4 ≡ d →
        is_some (cond a (Some kind.Valves) (cond b (Some kind.Track) (cond c (Some kind.Job) (cond d (Some kind.Steps) None)))) ≡ true →
        body_seen (cond a (Some kind.Valves) (cond b (Some kind.Track) (cond c (Some kind.Job) (cond d (Some kind.Steps) None)))) p bs ≡ Some (part n p bs)
    by true b c d e f g h k = ap (λ j. Some (part j p bs)) (sym (eqb-true n 1 e))
    by false true c d e f g h k = ap (λ j. Some (part j p bs)) (sym (eqb-true n 2 f))
    by false false true d e f g h k = ap (λ j. Some (part j p bs)) (sym (eqb-true n 3 g))
    by false false false true e f g h k = ap (λ j. Some (part j p bs)) (sym (eqb-true n 4 h))
    by false false false false e f g h k = absurd (false≢true k)

-- each entry of rows of kinds that there are has one
parts_known : (e : ℕ) (rs : List ℕ) (p : ℕ) (bs : List ℕ) (n : ℕ) (x : Part) → known_rows e rs ≡ true → slice_get (parts_from e rs p bs) n ≡ Some x →
    is_some (kind_of x.kind) ≡ true
parts_known zero rs p bs n x h f = absurd (true≢false (ap is_some (sym f)))
parts_known (suc e) rs p bs zero x h f =
    let same : part (row_kind rs) p (take (row_length rs) bs) ≡ x = cc in
    subst (λ (y : Part). is_some (kind_of y.kind) ≡ true) same (and_parts (is_some (kind_of (row_kind rs))) (known_rows e (drop 4 rs)) h).0
parts_known (suc e) rs p bs (suc n) x h f =
    parts_known e (drop 4 rs) (p + row_length rs) (drop (row_length rs) bs) n x (and_parts (is_some (kind_of (row_kind rs))) (known_rows e (drop 4 rs)) h).1 f

-- a body that is found is the entry with that number
entry_by : (o : Option Part) (b : Body) → ((x : Part) → o ≡ Some x → is_some (kind_of x.kind) ≡ true) → BodyIs o (Some b) → body_seen b.kind b.place b.bytes.now ≡ o
entry_by None b k is = absurd is
entry_by (Some x) b k is =
    ap (λ o. body_seen o b.place b.bytes.now) is.kind
    ∙ (ap (λ p. body_seen (kind_of x.kind) p b.bytes.now) is.place
    ∙ (ap (body_seen (kind_of x.kind) x.place) is.bytes ∙ kind_seen x.kind x.place x.bytes (k x refl)))

pub entry_found : (s : Entries) (n : ℕ) (b : Body) → BodyIs (slice_get (parts_left s.bodies) n) (Some b) →
    body_seen b.kind b.place b.bytes.now ≡ slice_get (parts (entries_bytes s)) n
entry_found s n b is =
    let file = entries_bytes s in
    entry_by (slice_get (parts file) n) b
    (λ x f. parts_known (entries file) (rows file) (contents_end file) (drop (contents_end file) file) n x (faultless_known s.reader file s.faultless) f)
    (subst (λ (es : List Part). BodyIs (slice_get es n) (Some b)) (parts_are s) is)

-- as many bytes as were taken
take_own : (k : ℕ) (xs : List ℕ) → take (length (take k xs)) xs ≡ take k xs
take_own zero xs = refl
take_own (suc k) [] = refl
take_own (suc k) (x ∷ xs) = ap (λ t. x ∷ t) (take_own k xs)

-- an entry is the part of the file that begins at its place
parts_stand : (e : ℕ) (rs : List ℕ) (p : ℕ) (file : List ℕ) (n : ℕ) → StandsIn file (slice_get (parts_from e rs p (drop p file)) n)
parts_stand zero rs p file n = tt
parts_stand (suc e) rs p file zero = sym (take_own (row_length rs) (drop p file))
parts_stand (suc e) rs p file (suc n) =
    subst (λ (bs : List ℕ). StandsIn file (slice_get (parts_from e (drop 4 rs) (p + row_length rs) bs) n)) (sym (drop-drop (row_length rs) p file)) (parts_stand e (drop 4 rs) (p + row_length rs) file n)

pub entry_stands : (file : List ℕ) (n : ℕ) (o : Option Part) → o ≡ slice_get (parts file) n → StandsIn file o
entry_stands file n o f = subst (λ (x : Option Part). StandsIn file x) (sym f) (parts_stand (entries file) (rows file) (contents_end file) file n)
