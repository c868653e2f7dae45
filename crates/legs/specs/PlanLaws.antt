-- What is owed of plans, in the words of the subject, over any meaning. Assumes nothing.
use Rattle.std.specs.Prelude.{◌≡◌, ℕ, ◌-◌, ◌/◌, ◌<◌, ◌≤◌, ◌⊎◌, ◌↔◌, List, ◌∷◌, ◌++◌, length, take, drop, Some, None, Ok, Err, Result}
use Rattle.plant.specs.Meaning.{Meaning}
use Rattle.plant.specs.Laws.{Lawful}
use Rattle.plant.specs.declared.refusal.Refusal.{Refusal}
use Rattle.plant.specs.declared.refusal.Refusal.TheVariants.{NoSuchSetting, Bound, Overfull, OutOfReach}
use Rattle.legs.specs.Layers.{Leg, In, layer}
use Rattle.legs.specs.Legs.{leg_length, expanded, need}
use Rattle.legs.specs.Lists.{Linked, Distance, Earliest, earliest, after}
use Rattle.legs.specs.declared.relayed.Relayed.{Relayed}
use Rattle.legs.specs.Relays.{relays}
use Rattle.legs.specs.Answers.{Counted, measured}
use Rattle.legs.specs.Plans.{halfway, fetch_leg, fetch_legs, plan_legs, count, planned}

-- the search finds the earliest list of a length, and exactly where there is one
abbrev pub Finds : Meaning → Type 0
Finds m = (n s t : ℕ) (os : List ℕ) → (earliest m n s t ≡ Some os) ↔ Earliest m n s t os

abbrev pub FindsNone : Meaning → Type 0
FindsNone m = (n s t : ℕ) → (earliest m n s t ≡ None) ↔ (Linked m n s t → ⊥)

-- both parts of the earliest shortest list are the earliest shortest of their own ends
abbrev pub Parts : Meaning → Type 0
Parts m =
    (n s t : ℕ) (os : List ℕ) (h : ℕ) → Distance m n s t → Earliest m n s t os → h ≤ n
    → Distance m h s (after m s (take h os)) × Earliest m h s (after m s (take h os)) (take h os)
    × Distance m (n - h) (after m s (take h os)) t × Earliest m (n - h) (after m s (take h os)) t (drop h os)

-- in the leg of a fetch of two or more operations, the relay at the target is the setting half way
abbrev pub Relays : Meaning → Type 0
Relays m =
    (n s t : ℕ) (r : Relayed) → 2 ≤ n → Distance m n s t → In r (layer m (relays n) (fetch_leg n s t) n) → r.setting ≡ t
    → r.relay ≡ halfway m n s t

-- each leg of a fetch of the least length has its bound as its length
abbrev pub Fetches : Meaning → Type 0
Fetches m = (n s t : ℕ) (l : Leg) → Distance m n s t → In l (fetch_legs m n s t) → leg_length m l ≡ Some l.bound

-- the legs of a fetch of two or more operations: its own, then those of its halves
abbrev pub Halves : Meaning → Type 0
Halves m =
    (n s t : ℕ) → 2 ≤ n
    → fetch_legs m n s t ≡ fetch_leg n s t ∷ (fetch_legs m (n / 2) s (halfway m n s t) ++ fetch_legs m (n - n / 2) (halfway m n s t) t)

-- the start and the target are settings, and the bound is allowed
abbrev pub InRange : Meaning → Leg → Type 0
InRange m g = (g.start < m.settings) × (g.target < m.settings) × (g.bound ≤ 255)

-- no list within the bound leads from start to target
abbrev pub Unreached : Meaning → Leg → Type 0
Unreached m g = (k : ℕ) → k ≤ g.bound → Linked m k g.start g.target → ⊥

-- each answer of a search, and exactly when it is given, by when the records suffice and when they do not, and by what
-- is right to answer
pub record Answers {A : Type 0} (m : Meaning) (ask : Leg → ℕ → Result (Counted A) Refusal) (Roomy Crowded : Leg → ℕ → Type 0) (Right : Leg → Counted A → Type 0) : Type 0 where
  pub no_such_setting : (g : Leg) (records : ℕ) → (ask g records ≡ Err NoSuchSetting) ↔ ((m.settings ≤ g.start) ⊎ (m.settings ≤ g.target))
  pub bound : (g : Leg) (records : ℕ) → (ask g records ≡ Err Bound) ↔ ((g.start < m.settings) × (g.target < m.settings) × (255 < g.bound))
  pub overfull : (g : Leg) (records : ℕ) → (ask g records ≡ Err Overfull) ↔ (InRange m g × Crowded g records)
  pub out_of_reach : (g : Leg) (records : ℕ) → (ask g records ≡ Err OutOfReach) ↔ (InRange m g × Roomy g records × Unreached m g)
  pub accepted : (g : Leg) (records : ℕ) (a : Counted A) → (ask g records ≡ Ok a) ↔ (InRange m g × Roomy g records × Right g a)

-- a measure answers the least length of a list, if that is within the bound, and what its leg expands
abbrev pub Measures : Meaning → Type 0
Measures m =
    Answers m (measured m) (λ g records. need m g ≤ records) (λ g records. records < need m g)
    (λ g a. ((a.found ≤ g.bound) × Distance m a.found g.start g.target) × (expanded m g ≡ a.count))

-- a plan answers the earliest list of the least length, if that is within the bound, and what its legs expand
abbrev pub Plans : Meaning → Type 0
Plans m =
    Answers m (planned m)
    (λ g records. (l : Leg) → In l (plan_legs m g) → need m l ≤ records)
    (λ g records. (l : Leg) × In l (plan_legs m g) × (records < need m l))
    (λ g a.
    ((length a.found ≤ g.bound) × Distance m (length a.found) g.start g.target × Earliest m (length a.found) g.start g.target a.found)
    × (count m (plan_legs m g) ≡ a.count))

pub record PlanLaws (m : Meaning) : Type 0 where
  pub finds : Finds m
  pub finds_none : FindsNone m
  pub parts : Parts m
  pub relays_halfway : Relays m
  pub fetches : Fetches m
  pub halves : Halves m
  pub measures : Measures m
  pub plans : Plans m

-- every lawful plant has them
abbrev pub PlansLawful : Type 0
PlansLawful = (m : Meaning) → Lawful m → PlanLaws m
