-- A fault as one number. Assumes nothing.
use Rattle.std.specs.Prelude.{◌≡◌, ℕ, ◌+◌, ◌*◌, ◌≤◌, List, Some}
use Rattle.faults.specs.declared.fault.FileFault.{FileFault}
use Rattle.faults.specs.Told.{layer_code, layer_of, number_of, byte_of}
use Rattle.file.specs.declared.kind.Reader.{Reader}
use Rattle.file.specs.Read.{read_fault}

abbrev pub code_of : FileFault → ℕ
code_of f = 65536 * (256 * layer_code (layer_of f) + number_of f) + byte_of f

-- where a reader gives the fault of some file, its byte has 16 bits
abbrev pub ByteFits : FileFault → Type 0
ByteFits f = (r : Reader) (file : List ℕ) → read_fault r file ≡ Some f → byte_of f ≤ 65535
