-- What the search of a leg answers, and what it leaves in the records. Assumes nothing.
use Rattle.std.specs.Prelude.{◌≡◌, ℕ, ◌<◌, ◌≤◌, min, cond, ◌||◌, List, ◌++◌, length, drop, replicate, Some, None, Ok, Err, Result}
use Rattle.plant.specs.Meaning.{Meaning}
use Rattle.plant.specs.declared.refusal.Refusal.{Refusal}
use Rattle.plant.specs.declared.refusal.Refusal.TheVariants.{NoSuchSetting, Bound, Overfull, OutOfReach, NoSuchOperation, TaggedAlready, Untagged, NoList, WrongOperation}
use Rattle.legs.specs.Kinds.{Kind}
use Rattle.legs.specs.Layers.{Leg, In, layer}
use Rattle.legs.specs.Legs.{leg_length, expanded, need}
use Rattle.legs.specs.Answers.{outside, too_high, measured}
use Rattle.search.specs.declared.leg_search.Reached.{Reached}

-- zero in the first n records, or in all where there are no more, and the others as they were
abbrev pub zeroed : {R : Type 0} → R → ℕ → List R → List R
zeroed blank n rs = replicate (min n (length rs)) blank ++ drop n rs

-- the records that the leg needs are zero, unless it is refused before the search
abbrev pub leg_leaves : {R : Type 0} → R → Meaning → Leg → List R → List R
leg_leaves blank m g rs = cond (outside m g || too_high g) rs (zeroed blank (need m g) rs)

-- a record with which the leg reaches its target at this depth
abbrev pub Reaches : {R : Type 0} → Meaning → Kind R → Leg → ℕ → R → Type 0
Reaches m k g n r = In r (layer m k g n) × (k.setting r ≡ g.target)

-- the answer of a measure of the leg, and with its length a record of the target in the last layer
abbrev pub LegAnswer : {R : Type 0} → Meaning → Kind R → Leg → ℕ → Result (Reached R) Refusal → Type 0
LegAnswer m k g records (Ok x) = (measured m g records ≡ Ok (record { found = x.length; count = x.expanded })) × Reaches m k g x.length x.record
LegAnswer m k g records (Err e) = measured m g records ≡ Err e

-- the answers of a search in range
abbrev pub RefusedBy : Meaning → Leg → ℕ → Refusal → Type 0
RefusedBy m g records Overfull = records < need m g
RefusedBy m g records OutOfReach = (need m g ≤ records) × (leg_length m g ≡ None)
RefusedBy m g records NoSuchSetting = ⊥
RefusedBy m g records Bound = ⊥
RefusedBy m g records NoSuchOperation = ⊥
RefusedBy m g records TaggedAlready = ⊥
RefusedBy m g records Untagged = ⊥
RefusedBy m g records NoList = ⊥
RefusedBy m g records WrongOperation = ⊥

abbrev pub Searched : {R : Type 0} → Meaning → Kind R → Leg → ℕ → Result (Reached R) Refusal → Type 0
Searched m k g records (Ok x) = (need m g ≤ records) × (leg_length m g ≡ Some x.length) × (x.expanded ≡ expanded m g) × Reaches m k g x.length x.record
Searched m k g records (Err e) = RefusedBy m g records e

-- every record is zero after a search, and as it was where the call is refused before one
abbrev pub search_leaves : {R : Type 0} → R → Meaning → Leg → List R → List R
search_leaves blank m g rs = cond (outside m g || too_high g) rs (replicate (length rs) blank)

-- what is left after a refusal in records that are to be zero after a search
abbrev pub left_by : {R : Type 0} → R → Refusal → List R → List R
left_by blank Overfull rs = replicate (length rs) blank
left_by blank OutOfReach rs = replicate (length rs) blank
left_by blank NoSuchOperation rs = rs
left_by blank TaggedAlready rs = rs
left_by blank Untagged rs = rs
left_by blank NoSuchSetting rs = rs
left_by blank Bound rs = rs
left_by blank NoList rs = rs
left_by blank WrongOperation rs = rs
