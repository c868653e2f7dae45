-- What the bytes of a steps body say. Assumes nothing.
use Rattle.std.specs.Prelude.{◌≡◌, ℕ, List, [], ◌∷◌, take, drop, slice_index}
use Rattle.numbers.specs.Low.{value}
use Rattle.sheet.specs.Steps.{Steps, steps}

-- the numbers in bytes taken two by two
abbrev pub pairs : List ℕ → List ℕ
pairs [] = []
pairs (x ∷ []) = []
pairs (x ∷ (y ∷ zs)) = value (x ∷ (y ∷ [])) ∷ pairs zs

-- the answer, the count and the operations in a steps body
abbrev pub steps_of : List ℕ → Steps
steps_of bs = steps (slice_index bs 0) (value (take 8 (drop 2 bs))) (pairs (drop 10 bs))

-- these are the answer, the count and, as bytes, the operations of the body
pub record Says (b : Steps) (a n : ℕ) (os : List ℕ) : Type 0 where
  pub answer : a ≡ b.answer
  pub count : n ≡ b.count
  pub operations : pairs os ≡ b.operations
