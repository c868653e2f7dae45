-- A list whose numbers are f of their places, and one number more. Assumes nothing.
use Rattle.std.proofs.Common.{◌≡◌, ℕ, ◌+◌, ◌<◌, List, [], ◌∷◌, ◌++◌, length, get_or, ap, ◌∙◌, sym, below_more, arith}
use Rattle.std.proofs.Math.Seq.{get_or-append_seam}
use Rattle.std.proofs.lemmas.List.{get_or_append_left}

pub push_more : (f : ℕ → ℕ) (xs : List ℕ) (n x : ℕ) → length xs ≡ n → x ≡ f n → ((k : ℕ) → k < n → get_or xs k 0 ≡ f k) → (k : ℕ) → k < n + 1 → get_or (xs ++ x ∷ []) k 0 ≡ f k
push_more f xs n x long is so =
    below_more _ _ (λ k h. get_or_append_left xs (x ∷ []) 0 k (omega arith) ∙ so k h)
    (ap (λ i. get_or (xs ++ x ∷ []) i 0) (sym long) ∙ (get_or-append_seam xs x [] 0 ∙ is))
