-- The line of a fault, worked out. Assumes nothing.
use Rattle.std.proofs.Common.{◌≡◌, codes, refl}
use Rattle.faults.specs.declared.fault.FileFault.TheVariants.{TooShort}
use Rattle.fault_line.specs.Lines.{line_of}

-- a file of one byte
pub one_byte : line_of (TooShort 1) ≡ codes "fault file 10 1\n"
one_byte = refl
