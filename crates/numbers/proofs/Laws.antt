-- Numbers written in bytes and read from them: the two ways, and lengths. Assumes nothing.
use Rattle.std.proofs.Common.{◌≡◌, ℕ, zero, suc, ◌+◌, ◌-◌, ◌*◌, ◌/◌, ◌%◌, ◌<◌, List, [], ◌∷◌, ◌++◌, length, get_or, take, drop, set, sym, refl, ap, ◌∙◌, append_assoc, arith}
use Rattle.std.proofs.lemmas.List.{take_more_set}
use Rattle.numbers.specs.Low.{low, value, reach, Bytes}

pub length_low : (k n : ℕ) → length (low k n) ≡ k
length_low zero n = refl
length_low (suc k) n = ap (λ m. suc m) (length_low k (n / 256))

pub bytes_low : (k n : ℕ) → Bytes (low k n)
bytes_low zero n = tt
bytes_low (suc k) n = (omega arith, bytes_low k (n / 256))

-- what was written is read
pub value_low : (k n : ℕ) → n < reach k → value (low k n) ≡ n
value_low zero n h = omega arith
value_low (suc k) n h =
    let r : value (low k (n / 256)) ≡ n / 256 = value_low k (n / 256) (omega arith) in omega arith

-- what is read is written
pub low_value : (bs : List ℕ) → Bytes bs → low (length bs) (value bs) ≡ bs
low_value [] h = refl
low_value (b ∷ bs) h =
    let f : b < 256 = h.0 in
    let m : (b + 256 * value bs) % 256 ≡ b = omega arith in
    let d : (b + 256 * value bs) / 256 ≡ value bs = omega arith in
    let r : low (length bs) (value bs) ≡ bs = low_value bs h.1 in
    rw (m, d, r) refl

pub value_below : (bs : List ℕ) → Bytes bs → value bs < reach (length bs)
value_below [] h = omega arith
value_below (b ∷ bs) h =
    let f : b < 256 = h.0 in
    let r : value bs < reach (length bs) = value_below bs h.1 in omega arith

-- one byte more of a part that is being filled with the low bytes of a number
pub low_more : (xs : List ℕ) (i m left n : ℕ) → i < length xs → length xs ≡ m → take i xs ++ low (m - i) left ≡ low m n →
    take (i + 1) (set xs i (left % 256)) ++ low (m - (i + 1)) (left / 256) ≡ low m n
low_more xs i m left n h l e =
    let s : m - i ≡ suc (m - (i + 1)) = omega arith in
    let f : take i xs ++ low (suc (m - (i + 1))) left ≡ low m n = ap (λ k. take i xs ++ low k left) (sym s) ∙ e in
    rw (take_more_set xs i (left % 256) h, append_assoc) f

-- what is a byte at each place is so throughout, and in every part
pub bytes_from : (bs : List ℕ) → ((i : ℕ) → get_or bs i 0 < 256) → Bytes bs
bytes_from [] h = tt
bytes_from (b ∷ bs) h = (h 0, bytes_from bs (λ i. h (suc i)))

pub bytes_take : (n : ℕ) (bs : List ℕ) → Bytes bs → Bytes (take n bs)
bytes_take zero bs h = tt
bytes_take (suc n) [] h = tt
bytes_take (suc n) (b ∷ bs) h = (h.0, bytes_take n bs h.1)

pub bytes_drop : (n : ℕ) (bs : List ℕ) → Bytes bs → Bytes (drop n bs)
bytes_drop zero bs h = h
bytes_drop (suc n) [] h = tt
bytes_drop (suc n) (b ∷ bs) h = bytes_drop n bs h.1
