-- The byte of a fault that a reader gives has 16 bits. Assumes nothing.
use Rattle.std.proofs.Common.{◌≡◌, ℕ, zero, suc, ◌+◌, ◌*◌, ◌≤◌, cond, not, eqb, ltb, List, length, get_or, take, drop, Some, None, Option, refl, arith, length-take}
use Rattle.std.specs.Option.{option_map}
use Rattle.std.proofs.lemmas.Bool.{cond_both, ltb-true, ltb-false}
use Rattle.faults.specs.declared.fault.BodyFault.{BodyFault}
use Rattle.faults.specs.declared.fault.BodyFault.TheVariants as body
use Rattle.faults.specs.declared.fault.ContentsFault.{ContentsFault}
use Rattle.faults.specs.declared.fault.ContentsFault.TheVariants as contents
use Rattle.faults.specs.declared.fault.FileFault.{FileFault}
use Rattle.faults.specs.declared.fault.FileFault.TheVariants.{TooShort, TooLong, Contents, Body}
use Rattle.faults.specs.Told.{contents_byte, body_byte, byte_of}
use Rattle.bodies.specs.JobRule.{job_fault, job_byte}
use Rattle.bodies.specs.StepsRule.{steps_fault, steps_byte}
use Rattle.plant_bodies.specs.BenchRule.{valves_fault, valves_byte}
use Rattle.plant_bodies.specs.TrackRule.{track_fault, track_byte}
use Rattle.file.specs.declared.kind.Kind.{Kind}
use Rattle.file.specs.declared.kind.Kind.TheVariants.{Valves, Track, Job, Steps}
use Rattle.file.specs.declared.kind.Reader.{Reader}
use Rattle.file.specs.Kinds.{kind_of, takes}
use Rattle.file.specs.Contents.{row_kind, row_zero, row_length, rows_fault, rows_length}
use Rattle.file.specs.Parts.{parts_from, plant_before, kind_fault, first_fault, parts_fault}
use Rattle.file.specs.Read.{entries, rows, contents_end, told_length, bodies_fault, contents_then, head_fault, length_fault, or_else, read_fault}
use Rattle.file.proofs.Acceptance.{head_numbers, length_numbers}
use Rattle.fault_code.specs.Codes.{ByteFits}
use Rattle.fault_code.proofs.BodyBytes.{AtMost, at_none, at_some, steps_within, job_within, valves_within, track_within}

-- a body's fault, from the place of the body
placed : {F : Type 0} (byte : F → ℕ) (case : F → BodyFault) (p m : ℕ) → ((f : F) → body_byte (case f) ≡ p + byte f) → (o : Option F) → AtMost byte m o → AtMost body_byte (p + m) (option_map case o)
placed byte case p m e None h = at_none body_byte (p + m)
placed byte case p m e (Some f) h = at_some body_byte (p + m) (case f) (omega (arith, e f, h.holds f refl))

pub kind_within : (rs : List ℕ) (i : ℕ) (k : Option Kind) (p : ℕ) (bs : List ℕ) → AtMost body_byte (p + length bs) (kind_fault rs i k p bs)
kind_within rs i None p bs = at_none body_byte (p + length bs)
kind_within rs i (Some Valves) p bs = placed valves_byte (body.Valves p) p (length bs) (λ f. refl) (valves_fault bs) (valves_within bs)
kind_within rs i (Some Track) p bs = placed track_byte (body.Track p) p (length bs) (λ f. refl) (track_fault bs) (track_within bs)
kind_within rs i (Some Job) p bs = placed job_byte (body.Job p) p (length bs) (λ f. refl) (job_fault (plant_before rs i (get_or bs 0 0)) bs) (job_within (plant_before rs i (get_or bs 0 0)) bs)
kind_within rs i (Some Steps) p bs = placed steps_byte (body.Steps p) p (length bs) (λ f. refl) (steps_fault bs) (steps_within bs)

wider : (m n : ℕ) → m ≤ n → (o : Option BodyFault) → AtMost body_byte m o → AtMost body_byte n o
wider m n h None p = at_none body_byte n
wider m n h (Some f) p = at_some body_byte n f (omega (arith, p.holds f refl))

first_of : (m : ℕ) (o g : Option BodyFault) → AtMost body_byte m o → AtMost body_byte m g → AtMost body_byte m (first_fault o g)
first_of m None g p q = q
first_of m (Some f) g p q = p

pub parts_within : (all : List ℕ) (i e : ℕ) (rs : List ℕ) (p : ℕ) (bs : List ℕ) (m : ℕ) → p + rows_length e rs ≤ m → AtMost body_byte m (parts_fault all i (parts_from e rs p bs))
parts_within all i zero rs p bs m h = at_none body_byte m
parts_within all i (suc e) rs p bs m h =
    let l : length (take (row_length rs) bs) ≤ row_length rs = rw length-take (omega arith) in
    first_of m (kind_fault all i (kind_of (row_kind rs)) p (take (row_length rs) bs)) (parts_fault all (suc i) (parts_from e (drop 4 rs) (p + row_length rs) (drop (row_length rs) bs)))
    (wider (p + length (take (row_length rs) bs)) m (omega arith) (kind_fault all i (kind_of (row_kind rs)) p (take (row_length rs) bs)) (kind_within all i (kind_of (row_kind rs)) p (take (row_length rs) bs)))
    (parts_within all (suc i) e (drop 4 rs) (p + row_length rs) (drop (row_length rs) bs) m (omega arith))

-- rows
pub rows_within : (r : Reader) (e i : ℕ) (rs : List ℕ) (m : ℕ) → 4 * (i + e) ≤ m → AtMost contents_byte m (rows_fault r e i rs)
rows_within r zero i rs m h = at_none contents_byte m
rows_within r (suc e) i rs m h =
    cond_both (not (takes r (row_kind rs))) (Some (contents.Kind i)) _ (AtMost contents_byte m) (λ _. at_some contents_byte m (contents.Kind i) (omega arith))
    (λ _. cond_both (not (eqb (row_zero rs) 0)) (Some (contents.RowZero i)) (rows_fault r e (suc i) (drop 4 rs)) (AtMost contents_byte m) (λ _. at_some contents_byte m (contents.RowZero i) (omega arith))
    (λ _. rows_within r e (suc i) (drop 4 rs) m (omega arith)))

-- head and length
head_within : (n e z : ℕ) → AtMost byte_of 65535
    (cond (ltb 65535 n) (Some (TooLong 65535)) (cond (ltb n 2) (Some (TooShort n)) (cond (ltb 64 e) (Some (Contents contents.Entries))
    (cond (not (eqb z 0)) (Some (Contents contents.HeadZero)) (cond (ltb n (2 + 4 * e)) (Some (TooShort n)) None)))))
head_within n e z =
    cond_both (ltb 65535 n) (Some (TooLong 65535)) _ (AtMost byte_of 65535) (λ _. at_some byte_of 65535 (TooLong 65535) (omega arith))
    (λ l. let few : n ≤ 65535 = ltb-false 65535 n l in
    cond_both (ltb n 2) (Some (TooShort n)) _ (AtMost byte_of 65535) (λ _. at_some byte_of 65535 (TooShort n) few)
    (λ _. cond_both (ltb 64 e) (Some (Contents contents.Entries)) _ (AtMost byte_of 65535) (λ _. at_some byte_of 65535 (Contents contents.Entries) (omega arith))
    (λ _. cond_both (not (eqb z 0)) (Some (Contents contents.HeadZero)) _ (AtMost byte_of 65535) (λ _. at_some byte_of 65535 (Contents contents.HeadZero) (omega arith))
    (λ _. cond_both (ltb n (2 + 4 * e)) (Some (TooShort n)) None (AtMost byte_of 65535) (λ _. at_some byte_of 65535 (TooShort n) few) (λ _. at_none byte_of 65535)))))

length_within : (n t : ℕ) → n ≤ 65535 → AtMost byte_of 65535 (cond (ltb n t) (Some (TooShort n)) (cond (ltb t n) (Some (TooLong t)) None))
length_within n t h =
    cond_both (ltb n t) (Some (TooShort n)) _ (AtMost byte_of 65535) (λ _. at_some byte_of 65535 (TooShort n) h)
    (λ _. cond_both (ltb t n) (Some (TooLong t)) None (AtMost byte_of 65535) (λ l. at_some byte_of 65535 (TooLong t) (omega (arith, ltb-true t n l))) (λ _. at_none byte_of 65535))

-- one stage after another
stage : (o g : Option FileFault) → AtMost byte_of 65535 o → (o ≡ None → AtMost byte_of 65535 g) → AtMost byte_of 65535 (or_else o g)
stage None g p q = q refl
stage (Some f) g p q = p

stage_contents : (o : Option ContentsFault) (g : Option FileFault) (m : ℕ) → m ≤ 65535 → AtMost contents_byte m o → AtMost byte_of 65535 g → AtMost byte_of 65535 (contents_then o g)
stage_contents None g m h p q = q
stage_contents (Some f) g m h p q = at_some byte_of 65535 (Contents f) (omega (arith, p.holds f refl))

stage_bodies : (o : Option BodyFault) (m : ℕ) → m ≤ 65535 → AtMost body_byte m o → AtMost byte_of 65535 (option_map Body o)
stage_bodies None m h p = at_none byte_of 65535
stage_bodies (Some f) m h p = at_some byte_of 65535 (Body f) (omega (arith, p.holds f refl))

pub read_within : (r : Reader) (file : List ℕ) → AtMost byte_of 65535 (read_fault r file)
read_within r file =
    stage (head_fault file) _ (head_within (length file) (entries file) (get_or file 1 0))
    (λ h. let n = head_numbers (length file) (entries file) (get_or file 1 0) h in
    let few : length file ≤ 65535 = n.0 in
    let e : entries file ≤ 64 = n.2 in
    stage_contents (rows_fault r (entries file) 0 (rows file)) _ 256 (omega arith) (rows_within r (entries file) 0 (rows file) 256 (omega arith))
    (stage (length_fault file) (option_map Body (bodies_fault file)) (length_within (length file) (told_length file) few)
    (λ l. let t : told_length file ≡ length file = length_numbers (length file) (told_length file) l in
    stage_bodies (bodies_fault file) (length file) few (parts_within (rows file) 0 (entries file) (rows file) (contents_end file) (drop (contents_end file) file) (length file) (omega arith)))))

pub byte_fits : (f : FileFault) → ByteFits f
byte_fits f r file h = (read_within r file).holds f h
