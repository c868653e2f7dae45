-- What the tables of a bench hold. Assumes nothing.
use Rattle.std.specs.Prelude.{◌≡◌, ℕ, suc, ◌+◌, ◌/◌, ◌<◌, List, length, slice_index, slice_index_or}
use Rattle.valves.specs.declared.interlock.Interlock.{Interlock}
use Rattle.valves.specs.Positions.{weight}
use Rattle.valves.specs.Interlocks.{row_from}

-- the weight of each valve
abbrev pub Weighs : List ℕ → List ℕ → Type 0
Weighs ns weights = (v : ℕ) → v < length ns → slice_index weights v ≡ weight ns v

-- what a share is a part of: 2 to the power of 62, so that four wholes fit 64 bits
abbrev pub whole : ℕ
whole = 4611686018427387904

-- for each valve, the part of the whole that one setting of the valves up to and with it takes up, rounded up
abbrev pub Shares : List ℕ → List ℕ → Type 0
Shares ns shares = (v : ℕ) → v < length ns → slice_index shares v ≡ whole / weight ns (suc v) + 1

-- the first interlock of each valve
abbrev pub Begins : ℕ → List Interlock → List ℕ → Type 0
Begins valves ls first = (v : ℕ) → v < valves → slice_index first v ≡ row_from ls v 0

-- after each interlock, the next of the same valve
abbrev pub GoesOn : List Interlock → List ℕ → Type 0
GoesOn ls following = (r : ℕ) (d : Interlock) → r < length ls → slice_index following r ≡ row_from ls (slice_index_or ls r d).valve (suc r)
