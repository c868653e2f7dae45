-- The lowest operation that steps from one setting to another. Assumes nothing.
use Rattle.std.specs.Prelude.{ℕ, ◌<◌, Bool, true, false, Some, None, Option}
use Rattle.plant.specs.Meaning.{Meaning, Steps}

-- whether operation o steps from s to t
abbrev pub TellsStep : Meaning → ℕ → ℕ → ℕ → Bool → Type 0
TellsStep m s o t true = Steps m s o t
TellsStep m s o t false = Steps m s o t → ⊥

-- it steps there, and no lower one does; or none does
abbrev pub Lowest : Meaning → ℕ → ℕ → Option ℕ → Type 0
Lowest m s t (Some o) = Steps m s o t × ((p : ℕ) → p < o → Steps m s p t → ⊥)
Lowest m s t None = (p : ℕ) → p < m.operations → Steps m s p t → ⊥
