-- What becomes of the arrivals that are offered to the store. Assumes nothing.
use Rattle.std.specs.Prelude.{◌≡◌, ℕ, ◌+◌, ◌≤◌, Bool, true, false, cond, not, ◌||◌, List, [], ◌∷◌, ◌++◌, map, length, Some, None, Option}
use Rattle.plant.specs.Meaning.{Meaning}
use Rattle.legs.specs.Layers.{Leg, has, fits}
use Rattle.search.specs.Stored.{Store, count, standing, Kept}

-- whether a setting is turned away at depth d: a record with it stands already, or it does not fit
abbrev pub turned_away : {R : Type 0} → (R → ℕ) → Meaning → Leg → ℕ → ℕ → Store R → Bool
turned_away tells m g d u s = has (map tells (standing s)) u || not (fits m g d u)

-- the record that a step arrives with, if it leads anywhere and is not turned away
abbrev pub arriving : {R : Type 0} → (R → ℕ) → Meaning → Leg → ℕ → (ℕ → R) → Store R → Option ℕ → List R
arriving tells m g d new s None = []
arriving tells m g d new s (Some u) = cond (turned_away tells m g d u s) [] (new u ∷ [])

-- these records have entered behind the others; or there was no place for one of them
abbrev pub Taken : {R : Type 0} → Store R → Store R → List R → Bool → Type 0
Taken s s' rs true =
    Kept s s' × (s'.next ≡ s.next + length rs) × (standing s' ≡ standing s ++ rs)
Taken s s' rs false =
    Kept s s' × (1 ≤ length rs) × (length s.room ≡ count s)
