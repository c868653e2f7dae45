-- The steps body that answers a job of a book. Assumes nothing.
use Rattle.std.specs.Prelude.{ℕ, List, [], Some, None, Ok, Err, Option, Result}
use Rattle.std.specs.List.{slice_get}
use Rattle.std.specs.Option.{option_map}
use Rattle.plant.specs.Meaning.{Meaning}
use Rattle.plant.specs.declared.refusal.Refusal.{Refusal}
use Rattle.plant.specs.Refusals.{number}
use Rattle.legs.specs.Layers.{Leg}
use Rattle.legs.specs.Answers.{Counted}
use Rattle.legs.specs.Plans.{planned}
use Rattle.sheet.specs.Steps.{Steps, steps}
use Rattle.bodies.specs.declared.job.Job.{Job}
use Rattle.bodies.specs.JobRule.{job_of}
use Rattle.file.specs.declared.kind.Kind.{Kind}
use Rattle.file.specs.declared.kind.Kind.TheVariants as kind
use Rattle.file.specs.Kinds.{kind_of}
use Rattle.file.specs.Parts.{Part}
use Rattle.plants_read.specs.Benches.{bench_described}
use Rattle.plants_read.specs.Tracks.{track_described}

-- the plant that a body of this kind describes; none of a job and of steps
abbrev pub kind_plant : Option Kind → List ℕ → Option Meaning
kind_plant None bs = None
kind_plant (Some kind.Valves) bs = Some (bench_described bs)
kind_plant (Some kind.Track) bs = Some (track_described bs)
kind_plant (Some kind.Job) bs = None
kind_plant (Some kind.Steps) bs = None

abbrev pub plant_in : Option Part → Option Meaning
plant_in None = None
plant_in (Some e) = kind_plant (kind_of e.kind) e.bytes

-- every job is planned with so many records
abbrev pub records : ℕ
records = 8192

abbrev pub leg_of : Job → Leg
leg_of j = record { start = j.start; target = j.target; bound = j.bound }

-- the list with its count under answer 0, or the refusal's number
abbrev pub answered : Result (Counted (List ℕ)) Refusal → Steps
answered (Ok p) = steps 0 p.count p.found
answered (Err e) = steps (number e) 0 []

abbrev pub steps_on : Job → Meaning → Steps
steps_on j m = answered (planned m (leg_of j) records)

-- the answer to a job, on the plant of the entry that it names
abbrev pub job_steps : List Part → Option Job → Option Steps
job_steps es None = None
job_steps es (Some j) = option_map (steps_on j) (plant_in (slice_get es j.entry))

-- what an entry adds to the sheet: a job its answer, any other nothing
abbrev pub kind_steps : List Part → Option Kind → List ℕ → Option Steps
kind_steps es None bs = None
kind_steps es (Some kind.Valves) bs = None
kind_steps es (Some kind.Track) bs = None
kind_steps es (Some kind.Job) bs = job_steps es (job_of bs)
kind_steps es (Some kind.Steps) bs = None

abbrev pub entry_steps : List Part → Part → Option Steps
entry_steps es e = kind_steps es (kind_of e.kind) e.bytes
