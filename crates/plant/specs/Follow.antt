-- Where a list of operations leads, worked out. Assumes nothing.
use Rattle.std.specs.Prelude.{ℕ, List, [], ◌∷◌, Some, Option}
use Rattle.std.specs.Option.{option_and_then}
use Rattle.plant.specs.Meaning.{Meaning}

-- the setting after the operations, from setting s
abbrev pub after : Meaning → ℕ → List ℕ → Option ℕ
after m s [] = Some s
after m s (o ∷ os) = option_and_then (λ u. after m u os) (m.step s o)
