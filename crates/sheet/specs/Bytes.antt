-- The bytes of a sheet. Assumes nothing.
use Rattle.std.specs.Prelude.{ℕ, ◌+◌, ◌-◌, ◌*◌, List, [], ◌∷◌, ◌++◌, length, take, drop, replicate}
use Rattle.std.specs.List.{flat_map}
use Rattle.numbers.specs.Low.{low}
use Rattle.sheet.specs.Steps.{Steps}

-- operation numbers, 16 bits each
abbrev pub words : List ℕ → List ℕ
words os = flat_map (low 2) os

-- a steps body: answer, 0, count in 64 bits, operations
abbrev pub body_bytes : Steps → List ℕ
body_bytes b = b.answer ∷ (0 ∷ (low 8 b.count ++ words b.operations))

abbrev pub body_length : Steps → ℕ
body_length b = 10 + 2 * length b.operations

-- its row of the contents: kind 4, 0, the body's length in 16 bits
abbrev pub row_bytes : Steps → List ℕ
row_bytes b = 4 ∷ (0 ∷ low 2 (body_length b))

-- bytes that are 0
abbrev pub zeros : ℕ → List ℕ
zeros k = replicate k 0

-- a sheet of n declared bodies with these put so far: head, rows filled, rows still zero, bodies
abbrev pub sheet_bytes : ℕ → List Steps → List ℕ
sheet_bytes n bs =
    n ∷ (0 ∷ (flat_map row_bytes bs ++ (zeros (4 * (n - length bs)) ++ flat_map body_bytes bs)))

-- how many bytes these bodies take together
abbrev pub bodies_length : List Steps → ℕ
bodies_length [] = 0
bodies_length (b ∷ bs) = body_length b + bodies_length bs

-- a list with some bytes written over it from a place on
abbrev pub over : ℕ → List ℕ → List ℕ → List ℕ
over at ys xs = take at xs ++ (ys ++ drop (at + length ys) xs)
