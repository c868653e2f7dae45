-- What is owed of legs and layers, in the words of the subject, over any meaning. Assumes nothing.
use Rattle.std.specs.Prelude.{◌≡◌, ℕ, suc, ◌+◌, ◌<◌, ◌≤◌, true, false, ◌⊎◌, ◌↔◌, List, [], ◌∷◌, length, Some, None}
use Rattle.plant.specs.Meaning.{Meaning, Steps, Leads}
use Rattle.plant.specs.Laws.{Lawful}
use Rattle.legs.specs.Layers.{Leg, has, settings}
use Rattle.legs.specs.Legs.{ends, end, leg_length, sizes, room, need}

-- the setting u is in the layer at depth d
abbrev pub Holds : Meaning → Leg → ℕ → ℕ → Type 0
Holds m g d u = has (settings m g d) u ≡ true

-- u is one step from the layer at depth d
abbrev pub Beside : Meaning → Leg → ℕ → ℕ → Type 0
Beside m g d u = (v : ℕ) × (o : ℕ) × Holds m g d v × Steps m v o u

-- layer 0 holds the start if its estimate to the target is at most the bound, and no other setting
abbrev pub Begins : Meaning → Type 0
Begins m = (g : Leg) (u : ℕ) → Holds m g 0 u ↔ ((g.start ≡ u) × (m.estimate g.start g.target ≤ g.bound))

-- no setting stands twice in the list
abbrev pub Distinct : List ℕ → Type 0
Distinct [] = Unit {0}
Distinct (u ∷ us) = (has us u ≡ false) × Distinct us

-- a layer holds each of its settings once
abbrev pub Once : Meaning → Type 0
Once m = (g : Leg) (d : ℕ) → Distinct (settings m g d)

-- the leg ends at the first depth whose layer holds the target, is empty, or is at the bound
abbrev pub EndsFirst : Meaning → Type 0
EndsFirst m = (g : Leg) → (ends m g (end m g) ≡ true) × ((i : ℕ) → i < end m g → ends m g i ≡ false)

-- the need is the largest room of a depth below the end, and at least 1
abbrev pub NeedsMost : Meaning → Type 0
NeedsMost m =
    (g : Leg) → (1 ≤ need m g) × ((d : ℕ) → d < end m g → room m g d ≤ need m g) × ((n : ℕ) → n < need m g → (n ≡ 0) ⊎ ((d : ℕ) × (d < end m g) × (n < room m g d)))

-- the layer at depth d + 1 holds each setting one step from layer d, in no layer up to d, whose estimate to the
-- target plus d + 1 is at most the bound, and no other
abbrev pub Layered : Meaning → Type 0
Layered m =
    (g : Leg) (d u : ℕ) → Holds m g (suc d) u ↔ (Beside m g d u × ((j : ℕ) → j ≤ d → Holds m g j u → ⊥) × (m.estimate u g.target + suc d ≤ g.bound))

-- a setting is in at most one layer
abbrev pub Apart : Meaning → Type 0
Apart m = (g : Leg) (i j u : ℕ) → Holds m g i u → Holds m g j u → i ≡ j

-- what is one step from a layer and in that or an earlier one is in that layer or in the one just before it
abbrev pub Near : Meaning → Type 0
Near m = (g : Leg) (d j u : ℕ) → Beside m g d u → Holds m g j u → j ≤ d → (j ≡ d) ⊎ (suc j ≡ d)

-- some list of n operations leads from the start to the target
abbrev pub ReachedIn : Meaning → Leg → ℕ → Type 0
ReachedIn m g n = (os : List ℕ) × (length os ≡ n) × Leads m g.start os g.target

-- the leg's length is n exactly where n, at most the bound, is the least length of a list from start to target
abbrev pub Least : Meaning → Type 0
Least m =
    (g : Leg) (n : ℕ) → (leg_length m g ≡ Some n) ↔ ((n ≤ g.bound) × ReachedIn m g n × ((k : ℕ) → ReachedIn m g k → n ≤ k))

-- the leg has no length exactly where no list of at most bound operations leads from start to target
abbrev pub NoneWithin : Meaning → Type 0
NoneWithin m = (g : Leg) → (leg_length m g ≡ None) ↔ ((k : ℕ) → k ≤ g.bound → ReachedIn m g k → ⊥)

-- the layers below a depth hold no more settings than the plant has
abbrev pub Few : Meaning → Type 0
Few m = (g : Leg) (d : ℕ) → g.start < m.settings → sizes m g d ≤ m.settings

pub record LegLaws (m : Meaning) : Type 0 where
  pub begins : Begins m
  pub layered : Layered m
  pub once : Once m
  pub apart : Apart m
  pub near : Near m
  pub least : Least m
  pub none_within : NoneWithin m
  pub few : Few m
  pub ends_first : EndsFirst m
  pub needs_most : NeedsMost m

-- every lawful plant has them
abbrev pub LegsLawful : Type 0
LegsLawful = (m : Meaning) → Lawful m → LegLaws m
