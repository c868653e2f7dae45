-- The layers in the store while a leg is searched. Assumes nothing.
use Rattle.std.specs.Prelude.{◌≡◌, ℕ, suc, ◌<◌, Bool, true, false, List, [], ◌++◌, length, take, drop}
use Rattle.plant.specs.Meaning.{Meaning}
use Rattle.legs.specs.Kinds.{Kind}
use Rattle.legs.specs.Layers.{Leg, layer, layer_before}
use Rattle.legs.specs.Filling.{filled}
use Rattle.legs.specs.Legs.{room}
use Rattle.search.specs.Stored.{Store, standing, Kept}

-- the layer before the one at depth d, that layer, and behind them these records of the next
pub record Stands {R : Type 0} (m : Meaning) (k : Kind R) (g : Leg) (d : ℕ) (nexts : List R) (s : Store R) : Type 0 where
  pub layers : standing s ≡ layer_before m k g d ++ (layer m k g d ++ nexts)
  pub befores : s.before ≡ length (layer_before m k g d)
  pub presents : s.present ≡ length (layer m k g d)
  pub nexts_are : s.next ≡ length nexts

-- the next layer as far as the first n records of the layer fill it
abbrev pub filled_by : {R : Type 0} → Meaning → Kind R → Leg → ℕ → ℕ → List R
filled_by m k g d n = filled m k g d (take n (layer m k g d))

-- the next layer is filled by n records; or the slice is too short for what stands while this layer is expanded
abbrev pub Expanded : {R : Type 0} → Meaning → Kind R → Leg → ℕ → ℕ → Store R → Store R → Bool → Type 0
Expanded m k g d n s s' true = Kept s s' × Stands m k g d (filled_by m k g d n) s'
Expanded m k g d n s s' false = Kept s s' × (length s.room < room m g d)

-- the next layer is complete; or the slice is too short for what stands while this layer is expanded
abbrev pub Completed : {R : Type 0} → Meaning → Kind R → Leg → ℕ → Store R → Store R → Bool → Type 0
Completed m k g d s s' true = Kept s s' × Stands m k g d (layer m k g (suc d)) s'
Completed m k g d s s' false = Kept s s' × (length s.room < room m g d)

-- the first layer stands, and nothing is changed behind one record
pub record Begun {R : Type 0} (m : Meaning) (k : Kind R) (g : Leg) (s s' : Store R) : Type 0 where
  pub long : length s'.room ≡ length s.room
  pub stands : Stands m k g 0 [] s'
  pub behind : drop 1 s'.room ≡ drop 1 s.room
