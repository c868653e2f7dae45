-- A book of a bench and a job, read: bench A (positions 3 and 2, interlock 0, 2, 1, 0) and a job on it, from 0 to 2 with bound 4.
-- And small files with a fault each. Assumes nothing.
use Rattle.std.proofs.Common.{◌≡◌, ℕ, List, [], ◌∷◌, Some, Ok, Err, refl}
use Rattle.bodies.specs.JobRule.{job_of}
use Rattle.plant_bodies.specs.BenchRule.{body_positions, body_interlocks}
use Rattle.faults.specs.declared.fault.ContentsFault.TheVariants as contents
use Rattle.faults.specs.declared.fault.FileFault.TheVariants.{TooShort, TooLong, Contents}
use Rattle.file.specs.declared.kind.Reader.TheVariants.{AllKinds, StepsAlone}
use Rattle.file.specs.Parts.{part}
use Rattle.file.specs.Read.{read}

abbrev bench_body : List ℕ
bench_body = 2 ∷ 1 ∷ 3 ∷ 2 ∷ 0 ∷ 2 ∷ 1 ∷ 0 ∷ []

abbrev job_body : List ℕ
job_body = 0 ∷ 0 ∷ 4 ∷ 0 ∷ 0 ∷ 0 ∷ 0 ∷ 0 ∷ 2 ∷ 0 ∷ 0 ∷ 0 ∷ []

abbrev book : List ℕ
book = 2 ∷ 0 ∷ 1 ∷ 0 ∷ 8 ∷ 0 ∷ 3 ∷ 0 ∷ 12 ∷ 0 ∷ 2 ∷ 1 ∷ 3 ∷ 2 ∷ 0 ∷ 2 ∷ 1 ∷ 0 ∷ 0 ∷ 0 ∷ 4 ∷ 0 ∷ 0 ∷ 0 ∷ 0 ∷ 0 ∷ 2 ∷ 0 ∷ 0 ∷ 0 ∷ []

-- two entries, at bytes 10 and 18
pub book_read : read AllKinds book ≡ Ok (part 1 10 bench_body ∷ part 3 18 job_body ∷ [])
book_read = refl

pub book_positions : body_positions bench_body ≡ 3 ∷ 2 ∷ []
book_positions = refl

pub book_interlocks : body_interlocks bench_body ≡ record { valve = 0; position = 2; other = 1; stands = 0 } ∷ []
book_interlocks = refl

pub book_job : job_of job_body ≡ Some (record { entry = 0; bound = 4; start = 0; target = 2 })
book_job = refl

-- a sheet has no bench
pub book_as_sheet : read StepsAlone book ≡ Err (Contents (contents.Kind 0))
book_as_sheet = refl

-- a file of one byte, and one of no entry with a byte too many
pub one_byte : read AllKinds (7 ∷ []) ≡ Err (TooShort 1)
one_byte = refl

pub byte_too_many : read AllKinds (0 ∷ 0 ∷ 9 ∷ []) ≡ Err (TooLong 2)
byte_too_many = refl
