-- A list taken in pieces of one length: a piece by its place. Assumes nothing.
use Rattle.std.proofs.Common.{◌≡◌, ℕ, zero, suc, ◌+◌, ◌*◌, ◌<◌, List, [], get_or, take, drop, ap, ◌∙◌, arith}
use Rattle.std.specs.Simd.{first_chunks}
use Rattle.std.proofs.lemmas.List.{drop-drop, get_or-drop, get_or-take}

pub chunk_at : {X : Type 0} (n k i : ℕ) (xs : List X) (d : List X) → i < k → get_or (first_chunks n k xs) i d ≡ take n (drop (n * i) xs)
chunk_at n zero i xs d h = absurd (omega arith)
chunk_at n (suc k) zero xs d h = let z : 0 ≡ n * 0 = omega arith in ap (λ m. take n (drop m xs)) z
chunk_at n (suc k) (suc i) xs d h =
    let more : n + n * i ≡ n * suc i = omega arith in
    chunk_at n k i (drop n xs) d (omega arith) ∙ ap (take n) (drop-drop (n * i) n xs ∙ ap (λ m. drop m xs) more)

-- a number of a piece
pub chunk_number : (n k i j : ℕ) (xs : List ℕ) → i < k → j < n → get_or (get_or (first_chunks n k xs) i []) j 0 ≡ get_or xs (n * i + j) 0
chunk_number n k i j xs h l = ap (λ t. get_or t j 0) (chunk_at n k i xs [] h) ∙ (get_or-take n (drop (n * i) xs) j 0 l ∙ get_or-drop (n * i) xs j 0)
