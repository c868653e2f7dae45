-- The layers of a leg, over the meaning of any plant and for any kind of record. Assumes nothing.
use Rattle.std.specs.Prelude.{◌≡◌, ℕ, zero, suc, ◌+◌, Bool, false, cond, not, ◌||◌, ◌⊎◌, List, [], ◌∷◌, ◌++◌, map, Some, None, Option, ◌==◌, nat_le}
use Rattle.plant.specs.Meaning.{Meaning}
use Rattle.legs.specs.Kinds.{Kind, plain}

-- from where, to where, and the most operations that may be used
pub record Leg : Type 0 where
  pub start : ℕ
  pub target : ℕ
  pub bound : ℕ

-- whether u stands in the list
abbrev pub has : List ℕ → ℕ → Bool
has [] u = false
has (v ∷ vs) u = v == u || has vs u

-- x stands in the list
abbrev pub In : {X : Type 0} → X → List X → Type 0
In x [] = ⊥
In x (y ∷ ys) = (y ≡ x) ⊎ In x ys

-- whether u, met at depth d, can still reach the target within the bound, as far as the estimate tells
abbrev pub fits : Meaning → Leg → ℕ → ℕ → Bool
fits m g d u = nat_le (m.estimate u g.target + d) g.bound

-- the record that a step from r, at depth d, arrives with
abbrev pub arrival : {R : Type 0} → Kind R → ℕ → R → Option ℕ → List R
arrival k d r None = []
arrival k d r (Some u) = k.onward d r u ∷ []

-- the arrivals from r by the operations below o, in their order
abbrev pub reached : {R : Type 0} → Meaning → Kind R → ℕ → R → ℕ → List R
reached m k d r zero = []
reached m k d r (suc o) = reached m k d r o ++ arrival k d r (m.step (k.setting r) o)

-- the arrivals from each record of a layer, in the layer's order
abbrev pub arrivals : {R : Type 0} → Meaning → Kind R → ℕ → List R → List R
arrivals m k d [] = []
arrivals m k d (r ∷ rs) = reached m k d r m.operations ++ arrivals m k d rs

-- the arrivals that are kept: the first at each setting that is not met already and fits
abbrev pub kept : {R : Type 0} → Kind R → (ℕ → Bool) → List ℕ → List R → List R
kept k fit met [] = []
kept k fit met (r ∷ rs) =
    let rest = kept k fit (k.setting r ∷ met) rs in
    cond (has met (k.setting r) || not (fit (k.setting r))) rest (r ∷ rest)

-- a layer, and the settings of this and all earlier layers
pub record Grown (R : Type 0) : Type 0 where
  pub layer : List R
  pub met : List ℕ

abbrev pub first : {R : Type 0} → Meaning → Kind R → Leg → Grown R
first m k g =
    let l = cond (fits m g 0 g.start) (k.begin g.start ∷ []) [] in
    record { layer = l; met = map k.setting l }

-- the layer at depth d, from the one before
abbrev pub next : {R : Type 0} → Meaning → Kind R → Leg → ℕ → Grown R → Grown R
next m k g d before =
    let l = kept k (fits m g d) before.met (arrivals m k d before.layer) in
    record { layer = l; met = map k.setting l ++ before.met }

abbrev pub grown : {R : Type 0} → Meaning → Kind R → Leg → ℕ → Grown R
grown m k g zero = first m k g
grown m k g (suc d) = next m k g (suc d) (grown m k g d)

-- the layer at depth d
abbrev pub layer : {R : Type 0} → Meaning → Kind R → Leg → ℕ → List R
layer m k g d = (grown m k g d).layer

-- the settings of the layer at depth d
abbrev pub settings : Meaning → Leg → ℕ → List ℕ
settings m g d = layer m plain g d

-- the layer before the one at depth d: before the first there is an empty one
abbrev pub layer_before : {R : Type 0} → Meaning → Kind R → Leg → ℕ → List R
layer_before m k g zero = []
layer_before m k g (suc d) = layer m k g d
