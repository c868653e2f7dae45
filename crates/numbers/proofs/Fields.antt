-- A number in a field of a list of bytes, byte by byte. Assumes nothing.
use Rattle.std.proofs.Common.{◌≡◌, ℕ, zero, suc, ◌+◌, ◌*◌, List, [], ◌∷◌, get_or, take, drop, refl, arith}
use Rattle.numbers.specs.Low.{value}

pub value_take_nil : (k : ℕ) → value (take k []) ≡ 0
value_take_nil zero = refl
value_take_nil (suc k) = refl

-- the first byte of a field, and the bytes behind it
pub value_at : (n : ℕ) (bs : List ℕ) (k : ℕ) → value (take (suc k) (drop n bs)) ≡ get_or bs n 0 + 256 * value (take k (drop (suc n) bs))
value_at zero [] k = omega (arith, value_take_nil k)
value_at zero (b ∷ bs) k = refl
value_at (suc n) [] k = omega (arith, value_take_nil k)
value_at (suc n) (b ∷ bs) k = value_at n bs k

-- a field of two bytes
pub field_2 : (n : ℕ) (bs : List ℕ) → value (take 2 (drop n bs)) ≡ get_or bs n 0 + 256 * get_or bs (suc n) 0
field_2 n bs = omega (arith, value_at n bs 1, value_at (suc n) bs 0)
