-- What is wrong first with a job body, and what a job says. Assumes nothing.
use Rattle.std.specs.Prelude.{ℕ, Bool, cond, not, List, length, take, drop, Some, None, Option, ◌==◌, slice_index}
use Rattle.numbers.specs.Low.{value}
use Rattle.bodies.specs.declared.job.Job.{Job}
use Rattle.bodies.specs.declared.job.JobFault.{JobFault}
use Rattle.bodies.specs.declared.job.JobFault.TheVariants.{Length, Entry, Zero}

-- length, the entry that it names, the zero behind it; whether that entry is an earlier bench or track is given
abbrev pub job_fault : Bool → List ℕ → Option JobFault
job_fault plant bs =
    cond (not (length bs == 12)) (Some Length)
    (cond (not plant) (Some Entry)
    (cond (not (slice_index bs 1 == 0)) (Some Zero) None))

-- the byte of the body that a fault names
abbrev pub job_byte : JobFault → ℕ
job_byte Length = 0
job_byte Entry = 0
job_byte Zero = 1

-- entry, 0, bound in 16 bits, start and target in 32
abbrev pub job_of : List ℕ → Option Job
job_of bs =
    cond (length bs == 12)
    (Some (record { entry = slice_index bs 0; bound = value (take 2 (drop 2 bs)); start = value (take 4 (drop 4 bs)); target = value (take 4 (drop 8 bs)) }))
    None
