-- Where a leg ends, its length, what it expands and what it needs. Assumes nothing.
use Rattle.std.specs.Prelude.{ℕ, zero, suc, ◌+◌, max, Bool, true, false, cond, ◌||◌, List, [], ◌∷◌, length, Some, None, Option, ◌==◌}
use Rattle.plant.specs.Meaning.{Meaning}
use Rattle.legs.specs.Layers.{Leg, has, settings}

abbrev pub empty : List ℕ → Bool
empty [] = true
empty (u ∷ us) = false

-- how many settings the layer at depth d holds
abbrev pub size : Meaning → Leg → ℕ → ℕ
size m g d = length (settings m g d)

-- whether the leg ends at depth d if it has come so far
abbrev pub ends : Meaning → Leg → ℕ → Bool
ends m g d = has (settings m g d) g.target || (empty (settings m g d) || d == g.bound)

-- the first depth from d on at which the leg ends, looking at most k depths further
abbrev pub end_from : Meaning → Leg → ℕ → ℕ → ℕ
end_from m g zero d = d
end_from m g (suc k) d = elim (ends m g d) [ true ↦ d | false ↦ end_from m g k (suc d) ]

-- the depth at which the leg ends
abbrev pub end : Meaning → Leg → ℕ
end m g = end_from m g g.bound 0

-- the leg's length, if it has one
abbrev pub leg_length : Meaning → Leg → Option ℕ
leg_length m g = cond (has (settings m g (end m g)) g.target) (Some (end m g)) None

-- the settings of the layers below depth d
abbrev pub sizes : Meaning → Leg → ℕ → ℕ
sizes m g zero = 0
sizes m g (suc d) = sizes m g d + size m g d

-- how many settings the leg expands
abbrev pub expanded : Meaning → Leg → ℕ
expanded m g = sizes m g (end m g)

-- the records that stand while the layer at depth d is expanded: that layer, the one before and the next
abbrev pub room : Meaning → Leg → ℕ → ℕ
room m g zero = size m g 0 + size m g 1
room m g (suc d) = size m g d + size m g (suc d) + size m g (suc (suc d))

abbrev pub most_room : Meaning → Leg → ℕ → ℕ
most_room m g zero = 1
most_room m g (suc d) = max (most_room m g d) (room m g d)

-- the records that the leg needs
abbrev pub need : Meaning → Leg → ℕ
need m g = most_room m g (end m g)
