-- The answer of the call as one number, for callers in C. Assumes nothing.
use Rattle.std.specs.Prelude.{◌≡◌, ℕ, ◌/◌, ◌%◌, ◌<◌, ◌≤◌, Ok, Err, Result}
use Rattle.faults.specs.declared.fault.FileFault.{FileFault}
use Rattle.faults.specs.Told.{layer_code, layer_of, number_of, byte_of}
use Rattle.fault_code.specs.Codes.{code_of}

-- every length and every byte has 16 bits
abbrev pub Sixteen : Result ℕ FileFault → Type 0
Sixteen (Ok n) = n ≤ 65535
Sixteen (Err f) = byte_of f ≤ 65535

-- the length of the sheet, or the fault by layer, number and byte
abbrev pub one_number : Result ℕ FileFault → ℕ
one_number (Ok n) = n
one_number (Err f) = code_of f

-- a number below 65,536 is the length of a sheet, and from any other layer, number and byte can be read
abbrev pub Tells : Result ℕ FileFault → ℕ → Type 0
Tells (Ok n) r = (r < 65536) × (r ≡ n)
Tells (Err f) r =
    (65536 ≤ r) × ((r / 65536) / 256 ≡ layer_code (layer_of f)) × ((r / 65536) % 256 ≡ number_of f) × (r % 65536 ≡ byte_of f)
