-- The words that show a fault. Assumes nothing.
use Rattle.std.specs.Prelude.{ℕ, List, ◌∷◌, ◌++◌, codes, decimal}
use Rattle.faults.specs.declared.fault.FileFault.{FileFault}
use Rattle.faults.specs.declared.fault.Layer.{Layer}
use Rattle.faults.specs.declared.fault.Layer.TheVariants.{File, Contents, Body, Sheet}
use Rattle.faults.specs.Told.{layer_of, number_of, byte_of}

abbrev pub layer_word : Layer → List ℕ
layer_word File = codes "file"
layer_word Contents = codes "contents"
layer_word Body = codes "body"
layer_word Sheet = codes "sheet"

-- fault, layer, number and byte, with a blank between two
abbrev pub fault_text : FileFault → List ℕ
fault_text f = codes "fault " ++ (layer_word (layer_of f) ++ (32 ∷ (decimal (number_of f) ++ (32 ∷ decimal (byte_of f)))))
