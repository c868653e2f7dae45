-- The line that tells a fault. Assumes nothing.
use Rattle.std.specs.Prelude.{ℕ, zero, suc, ◌+◌, ◌/◌, ◌%◌, cond, List, [], ◌∷◌, ◌++◌, take, codes, nat_lt}
use Rattle.faults.specs.declared.fault.FileFault.{FileFault}
use Rattle.faults.specs.Told.{layer_of, number_of, byte_of}
use Rattle.faults.specs.Shown.{layer_word}
use Rattle.fault_line.specs.declared.line.Line.{Line}

-- what a line holds
abbrev pub written : Line → List ℕ
written l = take l.end l.bytes

-- the digits of a number, at most so many
abbrev pub digits : ℕ → ℕ → List ℕ
digits zero n = []
digits (suc k) n = cond (nat_lt n 10) ((48 + n) ∷ []) (digits k (n / 10) ++ (48 + n % 10) ∷ [])

-- a number in decimal, without leading zeros
abbrev pub numeral : ℕ → List ℕ
numeral n = digits (suc n) n

-- fault, layer, number and byte, with a blank between two and a line feed at the end
abbrev pub line_of : FileFault → List ℕ
line_of f =
    codes "fault " ++ (layer_word (layer_of f) ++ (32 ∷ (numeral (number_of f) ++ (32 ∷ (numeral (byte_of f) ++ (10 ∷ []))))))
