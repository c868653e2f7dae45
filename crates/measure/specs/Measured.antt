-- What a measure answers. Assumes nothing.
use Rattle.std.specs.Prelude.{◌≡◌, ℕ, Ok, Err, Result}
use Rattle.plant.specs.Meaning.{Meaning}
use Rattle.plant.specs.declared.refusal.Refusal.{Refusal}
use Rattle.legs.specs.Layers.{Leg}
use Rattle.legs.specs.Answers.{measured}
use Rattle.measure.specs.declared.Measured.{Measured}

-- the answer that the leg has by its definition
abbrev pub Answers : Meaning → Leg → ℕ → Result Measured Refusal → Type 0
Answers m g records (Ok x) = measured m g records ≡ Ok (record { found = x.length; count = x.expanded })
Answers m g records (Err e) = measured m g records ≡ Err e
