-- What the sheet of a book says to its reader: one body for each job, and each of them that job's plan. Assumes nothing.
use Rattle.std.specs.Prelude.{◌≡◌, ℕ, List, [], ◌∷◌, take, Some, None, Ok, Err, Option, Result}
use Rattle.std.specs.List.{slice_get}
use Rattle.plant.specs.Meaning.{Meaning}
use Rattle.legs.specs.Plans.{planned}
use Rattle.legs.specs.PlanLaws.{PlanLaws}
use Rattle.sheet.specs.Steps.{Steps}
use Rattle.bodies.specs.declared.job.Job.{Job}
use Rattle.bodies.specs.JobRule.{job_of}
use Rattle.faults.specs.declared.fault.FileFault.{FileFault}
use Rattle.file.specs.declared.kind.Kind.{Kind}
use Rattle.file.specs.declared.kind.Kind.TheVariants as kind
use Rattle.file.specs.declared.kind.Reader.TheVariants.{StepsAlone}
use Rattle.file.specs.Kinds.{kind_of}
use Rattle.file.specs.Parts.{Part}
use Rattle.file.specs.Read.{parts, read_fault}
use Rattle.sheet_reader.specs.Laws.{bodies_in}
use Rattle.book_sheet.specs.Jobs.{plant_in, leg_of, answered}

-- the jobs among some entries, in their order
abbrev pub job_first : Option Kind → Part → List Part → List Part
job_first None e es = es
job_first (Some kind.Valves) e es = es
job_first (Some kind.Track) e es = es
job_first (Some kind.Job) e es = e ∷ es
job_first (Some kind.Steps) e es = es

abbrev pub jobs_among : List Part → List Part
jobs_among [] = []
jobs_among (e ∷ es) = job_first (kind_of e.kind) e (jobs_among es)

-- the body is the plan of the job, on the plant of the entry that it names, with 8,192 records; and plans on that plant
-- are what they should be: the list is the earliest of the shortest, and each refusal is given exactly where it is due
pub record JobPlanned (all : List Part) (j : Part) (b : Steps) : Type 0 where
  pub job : Job
  pub plant : Meaning
  pub read : job_of j.bytes ≡ Some job
  pub named : plant_in (slice_get all job.entry) ≡ Some plant
  pub laws : PlanLaws plant
  pub body : b ≡ answered (planned plant (leg_of job) 8192)

-- as many bodies as jobs, each the plan of its job
abbrev pub EachPlanned : List Part → List Part → List Steps → Type 0
EachPlanned all [] [] = Unit {0}
EachPlanned all [] (b ∷ bs) = ⊥
EachPlanned all (j ∷ js) [] = ⊥
EachPlanned all (j ∷ js) (b ∷ bs) = JobPlanned all j b × EachPlanned all js bs

-- the sheet of an accepted book is read without a fault, as the plans of the book's jobs
abbrev pub PlansReadBack : List ℕ → List ℕ → Result ℕ FileFault → Type 0
PlansReadBack book buffer (Ok n) =
    (read_fault StepsAlone (take n buffer) ≡ None) × EachPlanned (parts book) (jobs_among (parts book)) (bodies_in (take n buffer))
PlansReadBack book buffer (Err f) = Unit {0}
