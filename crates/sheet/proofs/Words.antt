-- Operations written 16 bits each: lengths, one operation more, and each of them in range. Assumes nothing.
use Rattle.std.proofs.Common.{◌≡◌, ℕ, suc, ◌*◌, ◌<◌, true, ltb, List, [], ◌∷◌, length, get_or, refl, arith}
use Rattle.std.proofs.lemmas.Bool.{lt-ltb, and_from}
use Rattle.sheet.specs.Steps.{all_below}
use Rattle.sheet.specs.Bytes.{words}

pub length_words : (os : List ℕ) → length (words os) ≡ 2 * length os
length_words [] = refl
length_words (o ∷ os) = let r : length (words os) ≡ 2 * length os = length_words os in omega arith

-- what is below a bound at each place is so throughout
pub all_below_from : (n : ℕ) (xs : List ℕ) → ((i : ℕ) → get_or xs i 0 < n) → all_below n xs ≡ true
all_below_from n [] h = refl
all_below_from n (x ∷ xs) h = and_from (ltb x n) (all_below n xs) (lt-ltb x n (h 0)) (all_below_from n xs (λ i. h (suc i)))
