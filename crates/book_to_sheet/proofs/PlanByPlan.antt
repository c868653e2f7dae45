-- Each body of a book's sheet is the plan of a job, on a lawful plant. Assumes nothing.
use Rattle.std.proofs.Common.{◌≡◌, ℕ, suc, ◌≤◌, true, List, [], ◌∷◌, ◌++◌, length, take, is_some, Some, None, Ok, Option, sym, refl, ap, ◌∙◌, subst, arith}
use Rattle.std.specs.List.{slice_get}
use Rattle.std.specs.Option.{option_map}
use Rattle.std.proofs.lemmas.List.{take_at}
use Rattle.std.proofs.lemmas.Bool.{false≢true}
use Rattle.plant.specs.Meaning.{Meaning}
use Rattle.plant.specs.Laws.{Lawful}
use Rattle.valves.specs.Faultless.{data_from_none}
use Rattle.valves.specs.BenchLawful.{bench_lawful}
use Rattle.track.specs.Laws.{track_lawful}
use Rattle.legs.proofs.PlanLaws.{plans_lawful}
use Rattle.sheet.specs.Steps.{Steps, all_sound}
use Rattle.bodies.specs.declared.job.Job.{Job}
use Rattle.bodies.specs.JobRule.{job_of}
use Rattle.plant_bodies.specs.BenchRule.{body_positions, body_interlocks}
use Rattle.plant_bodies.specs.TrackRule.{stations_in}
use Rattle.plants_read.specs.Tracks.{track_links}
use Rattle.plants_read.proofs.BenchBodies.{body_faultless as bench-faultless}
use Rattle.plants_read.proofs.TrackBodies.{track_faultless}
use Rattle.file.specs.declared.kind.Kind.{Kind}
use Rattle.file.specs.declared.kind.Kind.TheVariants as kind
use Rattle.file.specs.declared.kind.Reader.TheVariants.{AllKinds}
use Rattle.file.specs.Kinds.{kind_of}
use Rattle.file.specs.Parts.{Part}
use Rattle.file.specs.Read.{parts, read_fault}
use Rattle.sheet_reader.proofs.ReadBack.{reads_back}
use Rattle.book_sheet.specs.Jobs.{kind_plant, plant_in, steps_on, job_steps, kind_steps, entry_steps}
use Rattle.book_sheet.specs.Sheets.{put, answers_from, book_steps, sheet_of}
use Rattle.book_sheet.proofs.JobByJob.{entry_answered, bodies_few}
use Rattle.book_to_sheet.specs.Entries.{BodyFaultless}
use Rattle.book_to_sheet.specs.Laws.{job_first, jobs_among, JobPlanned, EachPlanned, PlansReadBack}
use Rattle.book_to_sheet.proofs.Sixteens.{sheet_short}
use Rattle.book_to_sheet.proofs.FaultlessBodies.{body_faultless}

-- a body without a fault describes a lawful plant
kind_lawful : (k : Option Kind) (e : Part) (m : Meaning) → BodyFaultless e → kind_of e.kind ≡ k → kind_plant k e.bytes ≡ Some m → Lawful m
kind_lawful None e m ok is said = cc
kind_lawful (Some kind.Valves) e m ok is said =
    let data-there = data_from_none (body_positions e.bytes) (body_interlocks e.bytes) (bench-faultless e.bytes (sym (ok.bench is))) in
    let same : _ ≡ m = cc in
    subst Lawful same (bench_lawful (body_positions e.bytes) (body_interlocks e.bytes) data-there)
kind_lawful (Some kind.Track) e m ok is said =
    let right = track_faultless e.bytes (sym (ok.track is)) in
    let same : _ ≡ m = cc in
    subst Lawful same (track_lawful (stations_in e.bytes) (track_links e.bytes) (ap is_some right))
kind_lawful (Some kind.Job) e m ok is said = cc
kind_lawful (Some kind.Steps) e m ok is said = cc

plant_lawful : (book : List ℕ) → read_fault AllKinds book ≡ None → (n : ℕ) (o : Option Part) → slice_get (parts book) n ≡ o → (m : Meaning) → plant_in o ≡ Some m → Lawful m
plant_lawful book h n None e m said = cc
plant_lawful book h n (Some x) e m said = kind_lawful (kind_of x.kind) x m (body_faultless book n x h e) refl said

-- the body of a job that is answered is its plan
module _ (book : List ℕ) (h : read_fault AllKinds book ≡ None) where
  plant_planned : (j : Part) (x : Job) (o : Option Meaning) (b : Steps) → job_of j.bytes ≡ Some x → plant_in (slice_get (parts book) x.entry) ≡ o → option_map (steps_on x) o ≡ Some b → JobPlanned (parts book) j b
  plant_planned j x None b r p e = cc
  plant_planned j x (Some m) b r p e = record {
    job = x;
    plant = m;
    read = r;
    named = p;
    laws = plans_lawful m (plant_lawful book h x.entry (slice_get (parts book) x.entry) refl m p);
    body = let same : b ≡ steps_on x m = cc in same;
  }

  job_planned : (j : Part) (o : Option Job) (b : Steps) → job_of j.bytes ≡ o → job_steps (parts book) o ≡ Some b → JobPlanned (parts book) j b
  job_planned j None b r e = cc
  job_planned j (Some x) b r e = plant_planned j x (plant_in (slice_get (parts book) x.entry)) b r refl e

  -- one entry: a job and its plan, or neither
  answer_planned : (j : Part) (js : List Part) (bs : List Steps) (o : Option Steps) → job_steps (parts book) (job_of j.bytes) ≡ o → is_some o ≡ true → EachPlanned (parts book) js bs →
      EachPlanned (parts book) (j ∷ js) (put o bs)
  answer_planned j js bs None e s rest = absurd (false≢true s)
  answer_planned j js bs (Some b) e s rest = (job_planned j (job_of j.bytes) b refl e, rest)

  entry_planned : (k : Option Kind) (j : Part) (js : List Part) (bs : List Steps) → (k ≡ Some kind.Job → is_some (kind_steps (parts book) k j.bytes) ≡ true) → EachPlanned (parts book) js bs →
      EachPlanned (parts book) (job_first k j js) (put (kind_steps (parts book) k j.bytes) bs)
  entry_planned None j js bs s rest = rest
  entry_planned (Some kind.Valves) j js bs s rest = rest
  entry_planned (Some kind.Track) j js bs s rest = rest
  entry_planned (Some kind.Job) j js bs s rest = answer_planned j js bs (job_steps (parts book) (job_of j.bytes)) refl (s refl) rest
  entry_planned (Some kind.Steps) j js bs s rest = rest

  entries_planned : (es : List Part) → ((n : ℕ) (x : Part) → slice_get es n ≡ Some x → kind_of x.kind ≡ Some kind.Job → is_some (entry_steps (parts book) x) ≡ true) →
      EachPlanned (parts book) (jobs_among es) (answers_from (parts book) es)
  entries_planned [] s = tt
  entries_planned (e ∷ es) s = entry_planned (kind_of e.kind) e (jobs_among es) (answers_from (parts book) es) (λ k. s 0 e refl k) (entries_planned es (λ n x there k. s (suc n) x there k))

  pub jobs_planned : EachPlanned (parts book) (jobs_among (parts book)) (book_steps book)
  jobs_planned = entries_planned (parts book) (λ n x there k. entry_answered book n x h there k)

  -- the sheet at the front of a buffer reads back as these plans
  pub plans_back : (after rest : List ℕ) (n : ℕ) → n ≡ length (sheet_of book) → after ≡ sheet_of book ++ rest → all_sound (book_steps book) ≡ true → PlansReadBack book after (Ok n)
  plans_back after rest n long is sound =
      let front : take n after ≡ sheet_of book = ap (take n) is ∙ take_at (sheet_of book) rest n (sym long) in
      let back = reads_back (take n after) (book_steps book) (bodies_few book h) sound front in
      (back.0, subst (λ bs. EachPlanned (parts book) (jobs_among (parts book)) bs) (sym back.1) jobs_planned)

  pub written_short : (n : ℕ) → n ≡ length (sheet_of book) → all_sound (book_steps book) ≡ true → n ≤ 65535
  written_short n long sound = let short = sheet_short (book_steps book) sound (bodies_few book h) in omega (arith, long, short)
