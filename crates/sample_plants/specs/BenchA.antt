-- Bench A: two valves, of 3 and of 2 positions; valve 0 may not move into or out of position 2 while valve 1 stands at 0.
-- Assumes nothing.
use Rattle.std.specs.Prelude.{ℕ, List, [], ◌∷◌}
use Rattle.valves.specs.declared.interlock.Interlock.{Interlock}

abbrev pub positions : List ℕ
positions = 3 ∷ 2 ∷ []

abbrev pub interlocks : List Interlock
interlocks = record { valve = 0; position = 2; other = 1; stands = 0 } ∷ []
