-- The leg of three numbers. Assumes nothing.
use Rattle.std.specs.Prelude.{ℕ}
use Rattle.legs.specs.Layers.{Leg}

abbrev pub leg : ℕ → ℕ → ℕ → Leg
leg s t b = record { start = s; target = t; bound = b }
