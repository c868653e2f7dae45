-- The byte of a body's fault is none past the body's end. Assumes nothing.
use Rattle.std.proofs.Common.{◌≡◌, ℕ, suc, ◌+◌, ◌*◌, ◌%◌, ◌≤◌, Bool, false, cond, not, ◌&&◌, ◌||◌, eqb, ltb, leb, List, [], ◌∷◌, length, get_or, take, drop, Some, None, Option, refl, arith, length-take}
use Rattle.std.specs.Option.{option_map}
use Rattle.std.proofs.lemmas.Bool.{cond_both, not-false, eqb-true, and_parts, leb-true}
use Rattle.numbers.specs.Low.{value}
use Rattle.valves.specs.declared.interlock.Interlock.{Interlock}
use Rattle.valves.specs.declared.fault.BenchFault.{BenchFault}
use Rattle.valves.specs.declared.fault.BenchFault.TheVariants as bench
use Rattle.valves.specs.Faults.{either_fault, positions_fault, interlock_fault, interlocks_fault, bench_fault}
use Rattle.bodies.specs.declared.steps.StepsFault.TheVariants as steps
use Rattle.bodies.specs.StepsRule.{steps_length, listed, unlisted, steps_fault, steps_byte}
use Rattle.bodies.specs.declared.job.JobFault.TheVariants as job
use Rattle.bodies.specs.JobRule.{job_fault, job_byte}
use Rattle.plant_bodies.specs.declared.bench_body.ValvesFault.TheVariants as valves
use Rattle.plant_bodies.specs.declared.bench_body.ValvesFault.TheVariants.{Bench}
use Rattle.plant_bodies.specs.BenchRule.{valves_in, interlock_count, body_positions, body_interlocks, bench_byte, valves_fault, valves_byte}
use Rattle.plant_bodies.specs.declared.track_body.TrackBodyFault.TheVariants as tracks
use Rattle.plant_bodies.specs.TrackRule as track
use Rattle.plant_bodies.specs.Rows.{interlock, link}
use Rattle.plant_bodies.proofs.RowByRow.{length_rows}
use Rattle.track.specs.declared.link.Link.{Link}
use Rattle.track.specs.declared.link.TrackFault.{TrackFault}
use Rattle.track.specs.declared.link.TrackFault.TheVariants.{Stations, Links, First, Second, Same}
use Rattle.track.specs.Fault.{row_fault, rows_fault, before, fault}

-- no fault, or one whose byte is at most this
pub record AtMost {F : Type 0} (byte : F → ℕ) (m : ℕ) (o : Option F) : Type 0 where
  pub holds : (f : F) → o ≡ Some f → byte f ≤ m

pub at_none : {F : Type 0} (byte : F → ℕ) (m : ℕ) → AtMost byte m None
at_none byte m = record { holds = λ f e. cc }

pub at_some : {F : Type 0} (byte : F → ℕ) (m : ℕ) (f : F) → byte f ≤ m → AtMost byte m (Some f)
at_some byte m f p = record { holds = λ g e. let s : byte f ≡ byte g = cc in omega arith }

-- a test that gives a fault, or leads on
passes : {F : Type 0} (byte : F → ℕ) (m : ℕ) (b : Bool) (f : F) (y : Option F) → byte f ≤ m → (b ≡ false → AtMost byte m y) → AtMost byte m (cond b (Some f) y)
passes byte m b f y p q = cond_both b (Some f) y (AtMost byte m) (λ _. at_some byte m f p) q

-- steps
pub steps_within : (bs : List ℕ) → AtMost steps_byte (length bs) (steps_fault bs)
steps_within bs =
    passes steps_byte (length bs) (not (steps_length (length bs))) steps.Length _ (omega arith)
    (λ e. let l : 10 ≤ length bs = leb-true 10 (length bs) (and_parts (leb 10 (length bs)) (eqb (length bs % 2) 0 && leb (length bs) 520) (not-false (steps_length (length bs)) e)).0 in
    passes steps_byte (length bs) (not (listed (get_or bs 0 0)) && not (unlisted (get_or bs 0 0))) steps.Answer _ (omega arith)
    (λ _. passes steps_byte (length bs) (not (listed (get_or bs 0 0)) && ltb 10 (length bs)) steps.Length _ (omega arith)
    (λ _. passes steps_byte (length bs) (not (eqb (get_or bs 1 0) 0)) steps.Zero _ (omega arith)
    (λ _. passes steps_byte (length bs) (not (listed (get_or bs 0 0)) && not (eqb (value (take 8 (drop 2 bs))) 0)) steps.Count None (omega arith) (λ _. at_none steps_byte (length bs))))))

-- jobs
pub job_within : (plant : Bool) (bs : List ℕ) → AtMost job_byte (length bs) (job_fault plant bs)
job_within plant bs =
    passes job_byte (length bs) (not (eqb (length bs) 12)) job.Length _ (omega arith)
    (λ e. let l : length bs ≡ 12 = eqb-true (length bs) 12 (not-false (eqb (length bs) 12) e) in
    passes job_byte (length bs) (not plant) job.Entry _ (omega arith)
    (λ _. passes job_byte (length bs) (not (eqb (get_or bs 1 0) 0)) job.Zero None (omega arith) (λ _. at_none job_byte (length bs))))

-- benches of v valves and r interlocks
first_of : (v m : ℕ) (o g : Option BenchFault) → AtMost (bench_byte v) m o → AtMost (bench_byte v) m g → AtMost (bench_byte v) m (either_fault o g)
first_of v m None g p q = q
first_of v m (Some f) g p q = p

positions_within : (v m : ℕ) (ns : List ℕ) (k : ℕ) → 2 + (k + length ns) ≤ m → AtMost (bench_byte v) m (positions_fault ns k)
positions_within v m [] k h = at_none (bench_byte v) m
positions_within v m (n ∷ ns) k h =
    passes (bench_byte v) m (ltb n 2 || ltb 4 n) (bench.Positions k) (positions_fault ns (suc k)) (omega arith) (λ _. positions_within v m ns (suc k) (omega arith))

interlock_within : (v m : ℕ) (ns : List ℕ) (l : Interlock) (k : ℕ) → 5 + (v + 4 * k) ≤ m → AtMost (bench_byte v) m (interlock_fault ns l k)
interlock_within v m ns l k h =
    passes (bench_byte v) m (leb (length ns) l.valve) (bench.Valve k) _ (omega arith)
    (λ _. passes (bench_byte v) m (leb (get_or ns l.valve 0) l.position) (bench.Position k) _ (omega arith)
    (λ _. passes (bench_byte v) m (leb (length ns) l.other) (bench.Other k) _ (omega arith)
    (λ _. passes (bench_byte v) m (eqb l.other l.valve) (bench.Same k) _ (omega arith)
    (λ _. passes (bench_byte v) m (leb (get_or ns l.other 0) l.stands) (bench.Stands k) None (omega arith) (λ _. at_none (bench_byte v) m)))))

interlocks_within : (v m : ℕ) (ns : List ℕ) (ls : List Interlock) (k : ℕ) → 2 + (v + 4 * (k + length ls)) ≤ m → AtMost (bench_byte v) m (interlocks_fault ns ls k)
interlocks_within v m ns [] k h = at_none (bench_byte v) m
interlocks_within v m ns (l ∷ ls) k h =
    first_of v m (interlock_fault ns l k) (interlocks_fault ns ls (suc k)) (interlock_within v m ns l k (omega arith)) (interlocks_within v m ns ls (suc k) (omega arith))

bench_within : (v m : ℕ) (ns : List ℕ) (ls : List Interlock) → 2 + length ns ≤ m → 2 + (v + 4 * length ls) ≤ m → AtMost (bench_byte v) m (bench_fault ns ls)
bench_within v m ns ls h g =
    passes (bench_byte v) m (ltb (length ns) 1 || ltb 12 (length ns)) bench.Valves _ (omega arith)
    (λ _. passes (bench_byte v) m (ltb 32 (length ls)) bench.Interlocks _ (omega arith)
    (λ _. first_of v m (positions_fault ns 0) (interlocks_fault ns ls 0) (positions_within v m ns 0 (omega arith)) (interlocks_within v m ns ls 0 (omega arith))))

-- a fault that another carries
mapped : {F G : Type 0} (byte : F → ℕ) (told : G → ℕ) (carry : F → G) (m : ℕ) → ((f : F) → told (carry f) ≡ byte f) → (o : Option F) → AtMost byte m o → AtMost told m (option_map carry o)
mapped byte told carry m e None h = at_none told m
mapped byte told carry m e (Some f) h = at_some told m (carry f) (omega (arith, e f, h.holds f refl))

pub valves_within : (bs : List ℕ) → AtMost valves_byte (length bs) (valves_fault bs)
valves_within bs =
    passes valves_byte (length bs) (not (eqb (length bs) (2 + (valves_in bs + 4 * interlock_count bs)))) valves.Length _ (omega arith)
    (λ e. let l : length bs ≡ 2 + (valves_in bs + 4 * interlock_count bs) = eqb-true (length bs) _ (not-false (eqb (length bs) _) e) in
    let n : length (body_interlocks bs) ≡ interlock_count bs = length_rows interlock (interlock_count bs) (drop (2 + valves_in bs) bs) in
    let p : length (body_positions bs) ≤ valves_in bs = rw length-take (omega arith) in
    mapped (bench_byte (valves_in bs)) valves_byte (Bench (valves_in bs)) (length bs) (λ f. refl) (bench_fault (body_positions bs) (body_interlocks bs))
    (bench_within (valves_in bs) (length bs) (body_positions bs) (body_interlocks bs) (omega arith) (omega arith)))

-- tracks
first_link : (m : ℕ) (o g : Option TrackFault) → AtMost track.link_byte m o → AtMost track.link_byte m g → AtMost track.link_byte m (before o g)
first_link m None g p q = q
first_link m (Some f) g p q = p

link_within : (m n : ℕ) (l : Link) (k : ℕ) → 6 + 4 * k ≤ m → AtMost track.link_byte m (row_fault n k l)
link_within m n l k h =
    passes track.link_byte m (leb n l.one) (First k) _ (omega arith)
    (λ _. passes track.link_byte m (leb n l.other) (Second k) _ (omega arith)
    (λ _. passes track.link_byte m (eqb l.one l.other) (Same k) None (omega arith) (λ _. at_none track.link_byte m)))

links_within : (m n : ℕ) (ls : List Link) (k : ℕ) → 4 + 4 * (k + length ls) ≤ m → AtMost track.link_byte m (rows_fault n k ls)
links_within m n [] k h = at_none track.link_byte m
links_within m n (l ∷ ls) k h =
    first_link m (row_fault n k l) (rows_fault n (k + 1) ls) (link_within m n l k (omega arith)) (links_within m n ls (k + 1) (omega arith))

track_data_within : (m n : ℕ) (ls : List Link) → 4 + 4 * length ls ≤ m → AtMost track.link_byte m (fault n ls)
track_data_within m n ls h =
    passes track.link_byte m (eqb n 0 || ltb 512 n) Stations _ (omega arith)
    (λ _. passes track.link_byte m (ltb 1024 (length ls)) Links _ (omega arith) (λ _. links_within m n ls 0 (omega arith)))

pub track_within : (bs : List ℕ) → AtMost track.track_byte (length bs) (track.track_fault bs)
track_within bs =
    passes track.track_byte (length bs) (not (eqb (length bs) (4 + 4 * track.link_count bs))) tracks.Length _ (omega arith)
    (λ e. let l : length bs ≡ 4 + 4 * track.link_count bs = eqb-true (length bs) _ (not-false (eqb (length bs) _) e) in
    let n : length (track.body_links bs) ≡ track.link_count bs = length_rows link (track.link_count bs) (drop 4 bs) in
    mapped track.link_byte track.track_byte tracks.Track (length bs) (λ f. refl) (fault (track.stations_in bs) (track.body_links bs))
    (track_data_within (length bs) (track.stations_in bs) (track.body_links bs) (omega arith)))
