-- What a steps body says, and the rule it keeps. Assumes nothing.
use Rattle.std.specs.Prelude.{ℕ, ◌^◌, Bool, true, cond, ◌&&◌, List, [], ◌∷◌, length, ◌==◌, nat_le, nat_lt}

-- the answer to a job, the settings expanded and the list of operations
pub record Steps : Type 0 where
  pub answer : ℕ
  pub count : ℕ
  pub operations : List ℕ

abbrev pub steps : ℕ → ℕ → List ℕ → Steps
steps a n os = record { answer = a; count = n; operations = os }

-- an answer, a count and so many operations go together: with answer 0 at most 255 operations; with 4 to 7 count 0
-- and no operation; no other answer
abbrev pub go_together : ℕ → ℕ → ℕ → Bool
go_together a n k = cond (a == 0) (nat_le k 255) ((nat_le 4 a && nat_le a 7) && (n == 0 && k == 0))

abbrev pub keeps_rule : Steps → Bool
keeps_rule b = go_together b.answer b.count (length b.operations)

-- each of them is below the bound
abbrev pub all_below : ℕ → List ℕ → Bool
all_below n [] = true
all_below n (x ∷ xs) = nat_lt x n && all_below n xs

-- the count fits 64 bits and each operation 16
abbrev pub fits : Steps → Bool
fits b = nat_lt b.count (2 ^ 64) && all_below (2 ^ 16) b.operations

-- the bodies that a sheet can hold
abbrev pub sound : Steps → Bool
sound b = keeps_rule b && fits b

abbrev pub all_sound : List Steps → Bool
all_sound [] = true
all_sound (b ∷ bs) = sound b && all_sound bs
