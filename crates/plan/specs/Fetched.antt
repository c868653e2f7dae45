-- What a fetch answers. Assumes nothing.
use Rattle.std.specs.Prelude.{◌≡◌, ℕ, ◌-◌, ◌*◌, ◌<◌, ◌≤◌, List, Some, None, Option}
use Rattle.plant.specs.Meaning.{Meaning}
use Rattle.legs.specs.Lists.{earliest}
use Rattle.legs.specs.Plans.{fetch_legs, count, most_need}

-- the earliest list of n operations is written and the settings of its legs are counted; or some leg needs more records
abbrev pub Fetched : Meaning → ℕ → ℕ → ℕ → ℕ → List ℕ → Option ℕ → Type 0
Fetched m n s t records list (Some c) =
    (earliest m n s t ≡ Some list) × (c ≡ count m (fetch_legs m n s t)) × (most_need m (fetch_legs m n s t) ≤ records) × (c ≤ (n - 1) * 16777216)
Fetched m n s t records list None = records < most_need m (fetch_legs m n s t)
