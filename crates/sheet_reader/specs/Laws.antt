-- The two laws between a sheet and its bodies. Assumes nothing.
use Rattle.std.specs.Prelude.{◌≡◌, ℕ, ◌≤◌, true, List, map, length, None, Option}
use Rattle.sheet.specs.Steps.{Steps, all_sound}
use Rattle.sheet.specs.Bytes.{sheet_bytes}
use Rattle.bodies.specs.StepsRead.{steps_of}
use Rattle.faults.specs.declared.fault.FileFault.{FileFault}
use Rattle.file.specs.Parts.{Part}
use Rattle.file.specs.Read.{parts}

-- what an entry says as a steps body
abbrev pub said : Part → Steps
said e = steps_of e.bytes

-- the bodies of a sheet, in their order
abbrev pub bodies_in : List ℕ → List Steps
bodies_in file = map said (parts file)

-- the sheet of some bodies has no fault and reads back as them
abbrev pub ReadsBack : List ℕ → Option FileFault → Type 0
ReadsBack file fault =
    (bs : List Steps) → length bs ≤ 64 → all_sound bs ≡ true → file ≡ sheet_bytes (length bs) bs → (fault ≡ None) × (bodies_in file ≡ bs)

-- a sheet without a fault is the one that its bodies write
abbrev pub WritesBack : List ℕ → Option FileFault → Type 0
WritesBack file fault = fault ≡ None → file ≡ sheet_bytes (length (bodies_in file)) (bodies_in file)
