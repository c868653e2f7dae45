-- Where a leg has come to, and where it ends. Assumes nothing.
use Rattle.std.specs.Prelude.{◌≡◌, ℕ, ◌<◌, ◌≤◌, Bool, false, ◌||◌, List, [], map, length, drop, Some, None, Option, ◌==◌}
use Rattle.plant.specs.Meaning.{Meaning}
use Rattle.legs.specs.Kinds.{Kind}
use Rattle.legs.specs.Layers.{Leg, has, In, layer, settings}
use Rattle.legs.specs.Legs.{ends, end, sizes, expanded, most_room, need}
use Rattle.search.specs.declared.walk.Ended.{Ended}
use Rattle.search.specs.declared.one_leg.Walk.{Walk}
use Rattle.search.specs.Stored.{Store, present_records}
use Rattle.search.specs.Stands.{Stands}

-- the present layer holds the target, is empty, or is at the bound
abbrev pub over : {R : Type 0} → (R → ℕ) → Store R → Leg → ℕ → Bool
over tells s g d = has (map tells (present_records s)) g.target || (s.present == 0 || d == g.bound)

-- the leg has come to depth d without ending, with these settings expanded and so many records used
pub record Walked {R : Type 0} (m : Meaning) (k : Kind R) (g : Leg) (s s' : Store R) (d number used : ℕ) : Type 0 where
  pub long : length s'.room ≡ length s.room
  pub stands : Stands m k g d [] s'
  pub within : d ≤ g.bound
  pub open_so_far : (i : ℕ) → i < d → ends m g i ≡ false
  pub counted : number ≡ sizes m g d
  pub used_is : used ≡ most_room m g d
  pub used_fits : used ≤ length s.room
  pub behind : drop used s'.room ≡ drop used s.room

-- the leg has ended where it ends, with what it expands and needs; or it needs more than there is
abbrev pub Ran : {R : Type 0} → Meaning → Kind R → Leg → Store R → Store R → Option Ended → Type 0
Ran m k g s s' (Some e) =
    Walked m k g s s' e.depth e.expanded e.used × (e.depth ≡ end m g)
Ran m k g s s' None = (length s'.room ≡ length s.room) × (length s.room < need m g)

-- a record among these that tells the setting, or none where none does
abbrev pub Hit : {R : Type 0} → (R → ℕ) → List R → ℕ → Option R → Type 0
Hit tells rs u (Some r) = In r rs × (tells r ≡ u)
Hit tells rs u None = has (map tells rs) u ≡ false

-- the target's record in the layer at which the leg ends, or none where that layer does not hold it
abbrev pub AtEnd : {R : Type 0} → Meaning → Kind R → Leg → Option R → Type 0
AtEnd m k g (Some r) = In r (layer m k g (end m g)) × (k.setting r ≡ g.target)
AtEnd m k g None = has (settings m g (end m g)) g.target ≡ false

-- the leg has run through to its end, and nothing is changed behind what it needs; or it needs more records
abbrev pub RunThrough : {R : Type 0} → Meaning → Kind R → Leg → List R → List R → Option (Walk R) → Type 0
RunThrough m k g room room' (Some w) =
    (w.ended.depth ≡ end m g) × (w.ended.expanded ≡ expanded m g) × (w.ended.used ≡ need m g) × (need m g ≤ length room) × (drop (need m g) room' ≡ drop (need m g) room) × AtEnd m k g w.hit
RunThrough m k g room room' None = length room < need m g
