-- The next layer as far as it is filled, while a layer is expanded record by record and operation by operation. Assumes nothing.
use Rattle.std.specs.Prelude.{ℕ, suc, List, ◌++◌}
use Rattle.plant.specs.Meaning.{Meaning}
use Rattle.legs.specs.Kinds.{Kind}
use Rattle.legs.specs.Layers.{Leg, fits, reached, arrivals, kept, grown}

-- what arrives from the layer at depth d and is kept
abbrev pub kept_next : {R : Type 0} → Meaning → Kind R → Leg → ℕ → List R → List R
kept_next m k g d rs = kept k (fits m g (suc d)) (grown m k g d).met rs

-- after those records of the layer
abbrev pub filled : {R : Type 0} → Meaning → Kind R → Leg → ℕ → List R → List R
filled m k g d rs = kept_next m k g d (arrivals m k (suc d) rs)

-- and the operations below o from r
abbrev pub filled_more : {R : Type 0} → Meaning → Kind R → Leg → ℕ → List R → R → ℕ → List R
filled_more m k g d rs r o = kept_next m k g d (arrivals m k (suc d) rs ++ reached m k (suc d) r o)
