-- Each job of a book without a fault names a plant, and is answered by one body. Assumes nothing.
use Rattle.std.proofs.Common.{◌≡◌, ℕ, zero, suc, ◌+◌, ◌*◌, ◌<◌, ◌≤◌, Bool, true, false, cond, not, eqb, ltb, List, [], ◌∷◌, length, get_or, take, drop, is_some, Some, None, Option, sym, refl, ap, ◌∙◌, arith}
use Rattle.std.specs.List.{slice_get}
use Rattle.std.specs.Option.{option_map}
use Rattle.std.proofs.lemmas.List.{drop-drop}
use Rattle.std.proofs.lemmas.Bool.{and_parts, ltb-true, false≢true}
use Rattle.numbers.specs.Low.{value}
use Rattle.sheet.specs.Steps.{Steps}
use Rattle.bodies.specs.declared.job.JobFault.{JobFault}
use Rattle.bodies.specs.declared.job.JobFault.TheVariants as job
use Rattle.bodies.specs.declared.job.Job.{Job}
use Rattle.bodies.specs.JobRule.{job_fault, job_of}
use Rattle.plant_bodies.specs.BenchRule.{valves_fault}
use Rattle.plant_bodies.specs.TrackRule.{track_fault}
use Rattle.faults.specs.declared.fault.BodyFault.TheVariants as body
use Rattle.file.specs.declared.kind.Kind.{Kind}
use Rattle.file.specs.declared.kind.Kind.TheVariants as kind
use Rattle.file.specs.declared.kind.Reader.TheVariants.{AllKinds}
use Rattle.file.specs.Kinds.{kind_of, is_plant}
use Rattle.file.specs.Contents.{row_kind, row_length}
use Rattle.file.specs.Parts.{Part, parts_from, plant_before, kind_fault, part_fault, parts_fault}
use Rattle.file.specs.Read.{entries, rows, contents_end, parts, read_fault}
use Rattle.file.proofs.Acceptance.{accepted, head_numbers, neither_body, none_mapped}
use Rattle.book_sheet.specs.Jobs.{kind_plant, plant_in, steps_on, job_steps, kind_steps, entry_steps}
use Rattle.book_sheet.specs.Sheets.{put, answers_from, book_steps, job_count, jobs_in}

some_mapped : {A B : Type 0} (f : A → B) (o : Option A) → is_some (option_map f o) ≡ is_some o
some_mapped f None = refl
some_mapped f (Some x) = refl

-- a body among bodies without a fault has none
pub none_at : (rs : List ℕ) (i : ℕ) (es : List Part) (j : ℕ) (x : Part) → parts_fault rs i es ≡ None → slice_get es j ≡ Some x → part_fault rs (i + j) x ≡ None
none_at rs i [] j x e s = cc
none_at rs i (y ∷ es) zero x e s =
    let same : x ≡ y = cc in
    let here : i + 0 ≡ i = omega arith in
    ap (λ n. part_fault rs n x) here ∙ (ap (part_fault rs i) same ∙ (neither_body (part_fault rs i y) (parts_fault rs (suc i) es) e).0)
none_at rs i (y ∷ es) (suc j) x e s =
    let here : i + suc j ≡ suc i + j = omega arith in
    ap (λ n. part_fault rs n x) here ∙ none_at rs (suc i) es j x (neither_body (part_fault rs i y) (parts_fault rs (suc i) es) e).1 s

-- the body of a bench or a track without a fault, by its own rule
pub valves_none : (rs : List ℕ) (i : ℕ) (x : Part) → part_fault rs i x ≡ None → kind_of x.kind ≡ Some kind.Valves → valves_fault x.bytes ≡ None
valves_none rs i x e k = none_mapped (body.Valves x.place) (valves_fault x.bytes) (ap (λ o. kind_fault rs i o x.place x.bytes) (sym k) ∙ e)

pub track_none : (rs : List ℕ) (i : ℕ) (x : Part) → part_fault rs i x ≡ None → kind_of x.kind ≡ Some kind.Track → track_fault x.bytes ≡ None
track_none rs i x e k = none_mapped (body.Track x.place) (track_fault x.bytes) (ap (λ o. kind_fault rs i o x.place x.bytes) (sym k) ∙ e)

-- the entry with a number is of the kind of its row
further : (k : ℕ) (rs : List ℕ) → drop (4 * k) (drop 4 rs) ≡ drop (4 * suc k) rs
further k rs = drop-drop (4 * k) 4 rs ∙ ap (λ n. drop n rs) (let e : 4 + 4 * k ≡ 4 * suc k = omega arith in e)

kind_at : (e : ℕ) (rs : List ℕ) (p : ℕ) (bs : List ℕ) (k : ℕ) → k < e → option_map (λ (x : Part). x.kind) (slice_get (parts_from e rs p bs) k) ≡ Some (row_kind (drop (4 * k) rs))
kind_at zero rs p bs k h = absurd (omega arith)
kind_at (suc e) rs p bs zero h = refl
kind_at (suc e) rs p bs (suc k) h =
    kind_at e (drop 4 rs) (p + row_length rs) (drop (row_length rs) bs) k (omega arith) ∙ ap (λ t. Some (row_kind t)) (further k rs)

within : (e : ℕ) (rs : List ℕ) (p : ℕ) (bs : List ℕ) (n : ℕ) (x : Part) → slice_get (parts_from e rs p bs) n ≡ Some x → n < e
within zero rs p bs n x s = cc
within (suc e) rs p bs zero x s = omega arith
within (suc e) rs p bs (suc n) x s = let h = within e (drop 4 rs) (p + row_length rs) (drop (row_length rs) bs) n x s in omega arith

-- an entry of the kind of a plant describes one
plant_kind : (k : Option Kind) (bs : List ℕ) → is_plant k ≡ true → is_some (kind_plant k bs) ≡ true
plant_kind None bs e = e
plant_kind (Some kind.Valves) bs e = refl
plant_kind (Some kind.Track) bs e = refl
plant_kind (Some kind.Job) bs e = e
plant_kind (Some kind.Steps) bs e = e

plant_there : (o : Option Part) (n : ℕ) → option_map (λ (x : Part). x.kind) o ≡ Some n → is_plant (kind_of n) ≡ true → is_some (plant_in o) ≡ true
plant_there None n e p = cc
plant_there (Some y) n e p =
    let same : y.kind ≡ n = cc in
    plant_kind (kind_of y.kind) y.bytes (ap (λ m. is_plant (kind_of m)) same ∙ p)

-- a job without a fault is one, and names a plant before it
passed : (a b : Bool) (f g : JobFault) (o : Option JobFault) → cond (not a) (Some f) (cond (not b) (Some g) o) ≡ None → (a ≡ true) × (b ≡ true)
passed false b f g o e = cc
passed true false f g o e = cc
passed true true f g o e = (refl, refl)

abbrev the_job : List ℕ → Job
the_job bs = record { entry = get_or bs 0 0; bound = value (take 2 (drop 2 bs)); start = value (take 4 (drop 4 bs)); target = value (take 4 (drop 8 bs)) }

job_answered : (es : List Part) (bs : List ℕ) → eqb (length bs) 12 ≡ true → is_some (plant_in (slice_get es (get_or bs 0 0))) ≡ true → is_some (job_steps es (job_of bs)) ≡ true
job_answered es bs e p =
    ap (λ b. is_some (job_steps es (cond b (Some (the_job bs)) None))) e
    ∙ (some_mapped (steps_on (the_job bs)) (plant_in (slice_get es (get_or bs 0 0))) ∙ p)

pub entry_answered : (book : List ℕ) (n : ℕ) (x : Part) → read_fault AllKinds book ≡ None → slice_get (parts book) n ≡ Some x → kind_of x.kind ≡ Some kind.Job →
    is_some (entry_steps (parts book) x) ≡ true
entry_answered book n x h s k =
    let es = parts book in
    let rs = rows book in
    let bs = x.bytes in
    let none : part_fault rs n x ≡ None = ap (λ i. part_fault rs i x) (let z : n ≡ 0 + n = omega arith in z) ∙ none_at rs 0 es n x (accepted AllKinds book h).bodies s in
    let wrong : option_map (body.Job x.place) (job_fault (plant_before rs n (get_or bs 0 0)) bs) ≡ None = ap (λ i. kind_fault rs n i x.place bs) (sym k) ∙ none in
    let right = passed (eqb (length bs) 12) (plant_before rs n (get_or bs 0 0)) job.Length job.Entry _ (none_mapped (body.Job x.place) _ wrong) in
    let named = and_parts (ltb (get_or bs 0 0) n) (is_plant (kind_of (row_kind (drop (4 * get_or bs 0 0) rs)))) right.1 in
    let before : get_or bs 0 0 < n = ltb-true (get_or bs 0 0) n named.0 in
    let there : n < entries book = within (entries book) rs (contents_end book) _ n x s in
    ap (λ i. is_some (kind_steps es i bs)) k
    ∙ job_answered es bs right.0
    (plant_there (slice_get es (get_or bs 0 0)) _ (kind_at (entries book) rs (contents_end book) _ (get_or bs 0 0) (omega arith)) named.1)

-- one body for a job, and none for any other entry
put_some : (o : Option Steps) (bs : List Steps) → is_some o ≡ true → length (put o bs) ≡ 1 + length bs
put_some None bs e = absurd (false≢true e)
put_some (Some b) bs e = omega arith

put_kind : (all : List Part) (k : Option Kind) (b : List ℕ) (bs : List Steps) → (k ≡ Some kind.Job → is_some (kind_steps all k b) ≡ true) → length (put (kind_steps all k b) bs) ≡ job_count k + length bs
put_kind all None b bs h = omega arith
put_kind all (Some kind.Valves) b bs h = omega arith
put_kind all (Some kind.Track) b bs h = omega arith
put_kind all (Some kind.Job) b bs h = put_some (kind_steps all (Some kind.Job) b) bs (h refl)
put_kind all (Some kind.Steps) b bs h = omega arith

answers_count : (all es : List Part) → ((j : ℕ) (x : Part) → slice_get es j ≡ Some x → kind_of x.kind ≡ Some kind.Job → is_some (entry_steps all x) ≡ true) →
    length (answers_from all es) ≡ jobs_in es
answers_count all [] h = refl
answers_count all (e ∷ es) h =
    put_kind all (kind_of e.kind) e.bytes (answers_from all es) (λ k. h 0 e refl k)
    ∙ ap (λ n. job_count (kind_of e.kind) + n) (answers_count all es (λ j x s k. h (suc j) x s k))

-- the sheet has as many bodies as the book has jobs
pub bodies_for_jobs : (book : List ℕ) → read_fault AllKinds book ≡ None → length (book_steps book) ≡ jobs_in (parts book)
bodies_for_jobs book h = answers_count (parts book) (parts book) (λ j x s k. entry_answered book j x h s k)

-- and they are at most 64
pub count_few : (k : Option Kind) → job_count k ≤ 1
count_few None = omega arith
count_few (Some kind.Valves) = omega arith
count_few (Some kind.Track) = omega arith
count_few (Some kind.Job) = omega arith
count_few (Some kind.Steps) = omega arith

jobs_few : (e : ℕ) (rs : List ℕ) (p : ℕ) (bs : List ℕ) → jobs_in (parts_from e rs p bs) ≤ e
jobs_few zero rs p bs = omega arith
jobs_few (suc e) rs p bs =
    let rest = jobs_few e (drop 4 rs) (p + row_length rs) (drop (row_length rs) bs) in
    let here = count_few (kind_of (row_kind rs)) in
    omega arith

pub bodies_few : (book : List ℕ) → read_fault AllKinds book ≡ None → length (book_steps book) ≤ 64
bodies_few book h =
    let few = jobs_few (entries book) (rows book) (contents_end book) (drop (contents_end book) book) in
    let most = (head_numbers (length book) (entries book) (get_or book 1 0) (accepted AllKinds book h).head).2 in
    let same = bodies_for_jobs book h in
    omega arith
