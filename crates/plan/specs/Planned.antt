-- What a plan answers, and what it writes. Assumes nothing.
use Rattle.std.specs.Prelude.{◌≡◌, ℕ, ◌-◌, ◌≤◌, List, ◌++◌, take, replicate, Ok, Err, Result}
use Rattle.plant.specs.Meaning.{Meaning}
use Rattle.plant.specs.declared.refusal.Refusal.{Refusal}
use Rattle.legs.specs.Layers.{Leg}
use Rattle.legs.specs.Plans.{planned}
use Rattle.plan.specs.declared.planning.Planned.{Planned}

-- a list at the front of a place of 255 numbers, with zero behind it
pub record Written (n : ℕ) (place : List ℕ) : Type 0 where
  pub fits : n ≤ 255
  pub zeros : place ≡ take n place ++ replicate (255 - n) 0

-- the list of the plan by its definition is written, with its count; or the plan is refused by its definition
abbrev pub Found : Meaning → Leg → ℕ → List ℕ → Result Planned Refusal → Type 0
Found m g records place (Ok p) = (planned m g records ≡ Ok (record { found = take p.length place; count = p.count })) × Written p.length place
Found m g records place (Err e) = planned m g records ≡ Err e

-- and a refused plan leaves the place as it was
abbrev pub Answers : Meaning → Leg → ℕ → List ℕ → List ℕ → Result Planned Refusal → Type 0
Answers m g records before after (Ok p) = Found m g records after (Ok p)
Answers m g records before after (Err e) = Found m g records after (Err e) × (after ≡ before)
