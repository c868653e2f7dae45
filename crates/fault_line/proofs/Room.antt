-- The pieces of a line fit 32 bytes. Assumes nothing.
use Rattle.std.proofs.Common.{◌≡◌, ℕ, ◌+◌, ◌^◌, ◌<◌, ◌≤◌, List, [], ◌∷◌, ◌++◌, length, codes, ap, arith, length-append}
use Rattle.std.proofs.lemmas.List.{length_push}
use Rattle.std.proofs.lemmas.Fmt.{length-decimal-le}
use Rattle.faults.specs.declared.fault.Layer.{Layer}
use Rattle.faults.specs.declared.fault.Layer.TheVariants.{File, Contents, Body, Sheet}
use Rattle.faults.specs.Shown.{layer_word}
use Rattle.fault_line.specs.Lines.{numeral}
use Rattle.fault_line.proofs.Numerals.{numeral_decimal}

-- the words of the layers are short
layer_short : (l : Layer) → length (layer_word l) ≤ 8
layer_short File = omega arith
layer_short Contents = omega arith
layer_short Body = omega arith
layer_short Sheet = omega arith

-- and so are the numbers
numeral_short : (k n : ℕ) → 0 < k → n < 10 ^ k → n < 2 ^ 64 → length (numeral n) ≤ k
numeral_short k n some h small = omega (arith, ap length (numeral_decimal n small), length-decimal-le k n some h small)

-- there is room for the byte of a fault and the line feed behind it
pub room_for_byte : (l : Layer) (word : List ℕ) (number byte : ℕ) (z a b c d e : List ℕ) → word ≡ layer_word l → number < 256 → byte < 2 ^ 32 →
    z ≡ [] → a ≡ z ++ codes "fault " → b ≡ a ++ word → c ≡ b ++ 32 ∷ [] → d ≡ c ++ numeral number → e ≡ d ++ 32 ∷ [] → length e + length (numeral byte) < 32
room_for_byte l word number byte z a b c d e w m n o p q r s t =
    let x : length (numeral number) ≤ 3 = numeral_short 3 number (omega arith) (omega arith) (omega arith) in
    let y : length (numeral byte) ≤ 10 = numeral_short 10 byte (omega arith) (omega arith) (omega arith) in
    omega (
      arith,
      layer_short l,
      ap length w,
      ap length o,
      ap length p,
      length-append z (codes "fault "),
      ap length q,
      length-append a word,
      ap length r,
      length_push b 32,
      ap length s,
      length-append c (numeral number),
      ap length t,
      length_push d 32,
    )
