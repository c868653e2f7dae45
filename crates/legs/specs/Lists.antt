-- Lists of operations: which is earlier, where one leads, and the earliest of a length. Assumes nothing.
use Rattle.std.specs.Prelude.{◌≡◌, ℕ, zero, suc, ◌<◌, ◌≤◌, cond, ◌⊎◌, List, [], ◌∷◌, length, Some, None, Option, ◌==◌}
use Rattle.plant.specs.Meaning.{Meaning, Leads}

-- where the two first differ, the first list has the lower operation
abbrev pub Earlier : List ℕ → List ℕ → Type 0
Earlier [] ps = ⊥
Earlier (o ∷ os) [] = ⊥
Earlier (o ∷ os) (p ∷ ps) = (o < p) ⊎ ((o ≡ p) × Earlier os ps)

-- some list of n operations leads from s to t
abbrev pub Linked : Meaning → ℕ → ℕ → ℕ → Type 0
Linked m n s t = (os : List ℕ) × (length os ≡ n) × Leads m s os t

-- the least length of a list from s to t is n
abbrev pub Distance : Meaning → ℕ → ℕ → ℕ → Type 0
Distance m n s t = Linked m n s t × ((k : ℕ) → Linked m k s t → n ≤ k)

-- the list is the earliest of n operations that leads from s to t
pub record Earliest (m : Meaning) (n s t : ℕ) (os : List ℕ) : Type 0 where
  pub leads : Leads m s os t
  pub long : length os ≡ n
  pub before_all : (ps : List ℕ) → length ps ≡ n → Leads m s ps t → (os ≡ ps) ⊎ Earlier os ps

-- the first of f 0, f 1, .. below n that is there
abbrev pub or_else : {A : Type 0} → Option A → Option A → Option A
or_else (Some a) b = Some a
or_else None b = b

abbrev pub first_hit : {A : Type 0} → (ℕ → Option A) → ℕ → Option A
first_hit f zero = None
first_hit f (suc n) =
    let last = f n in
    or_else (first_hit f n) last

-- operation o, then the rest that is found from where it leads
abbrev pub begun_by : ℕ → Option (List ℕ) → Option (List ℕ)
begun_by o None = None
begun_by o (Some os) = Some (o ∷ os)

abbrev pub from_there : (ℕ → Option (List ℕ)) → Option ℕ → Option (List ℕ)
from_there rest None = None
from_there rest (Some u) = rest u

-- the earliest list of n operations that leads from s to t, if there is one
abbrev pub earliest : Meaning → ℕ → ℕ → ℕ → Option (List ℕ)
earliest m zero s t = cond (s == t) (Some []) None
earliest m (suc n) s t = first_hit (λ o. begun_by o (from_there (λ u. earliest m n u t) (m.step s o))) m.operations

-- the setting after the list, where each operation without a step is passed over
abbrev pub landing : ℕ → Option ℕ → ℕ
landing s None = s
landing s (Some u) = u

abbrev pub after : Meaning → ℕ → List ℕ → ℕ
after m s [] = s
after m s (o ∷ os) = after m (landing s (m.step s o)) os
