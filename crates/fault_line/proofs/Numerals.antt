-- Numbers in decimal are those of the library. Assumes nothing.
use Rattle.std.proofs.Common.{◌≡◌, ℕ, suc, ◌+◌, ◌/◌, ◌%◌, ◌^◌, ◌<◌, ltb, [], ◌∷◌, ◌++◌, arith}
use Rattle.std.specs.Fmt.{decimal}
use Rattle.std.proofs.lemmas.Bool.{lt-ltb, le-ltb, cond-true, cond-false}
use Rattle.std.proofs.lemmas.Fmt.{AppendsLastDigit, decimal_from_appends, length-decimal-le_succ}
use Rattle.fault_line.specs.Lines.{digits, numeral}

by_digits : AppendsLastDigit digits
by_digits = record {
  one = λ k n h. cond-true (ltb n 10) ((48 + n) ∷ []) (digits k (n / 10) ++ (48 + n % 10) ∷ []) (lt-ltb n 10 h);
  more = λ k n h. cond-false (ltb n 10) ((48 + n) ∷ []) (digits k (n / 10) ++ (48 + n % 10) ∷ []) (le-ltb n 10 h);
}

pub numeral_decimal : (n : ℕ) → n < 2 ^ 64 → numeral n ≡ decimal n
numeral_decimal n h = decimal_from_appends digits by_digits (suc n) n h (omega (arith, length-decimal-le_succ n h))
