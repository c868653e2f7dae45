-- The legs that a plan takes, what they expand and need, and the plan's answer. Assumes nothing.
use Rattle.std.specs.Prelude.{ℕ, zero, suc, ◌+◌, ◌-◌, ◌/◌, max, true, false, List, [], ◌∷◌, ◌++◌, take, Some, None, Option, Result, nat_le, nat_lt}
use Rattle.plant.specs.Meaning.{Meaning}
use Rattle.plant.specs.declared.refusal.Refusal.{Refusal}
use Rattle.legs.specs.Layers.{Leg}
use Rattle.legs.specs.Legs.{leg_length, expanded, need}
use Rattle.legs.specs.Lists.{earliest, after}
use Rattle.legs.specs.Answers.{Counted, answer, outside, too_high}

-- the setting after h operations of the list
abbrev pub part_way : Meaning → ℕ → ℕ → Option (List ℕ) → ℕ
part_way m h s None = s
part_way m h s (Some os) = after m s (take h os)

-- the setting half way along the earliest list of n operations from s to t
abbrev pub halfway : Meaning → ℕ → ℕ → ℕ → ℕ
halfway m n s t = part_way m (n / 2) s (earliest m n s t)

-- the leg of a fetch of length n from s to t: its own length is its bound, its own end its target
abbrev pub fetch_leg : ℕ → ℕ → ℕ → Leg
fetch_leg n s t = record { start = s; target = t; bound = n }

-- the legs of a fetch of length n, halved at most f times: none below length 2, else its own and those of both halves
abbrev pub halved : Meaning → ℕ → ℕ → ℕ → ℕ → List Leg
halved m zero n s t = []
halved m (suc f) n s t =
    elim (nat_le 2 n) [
      | true ↦
          let r = halfway m n s t in
          fetch_leg n s t ∷ (halved m f (n / 2) s r ++ halved m f (n - n / 2) r t)
      | false ↦ []
    ]

-- the legs that a fetch of length n from s to t takes
abbrev pub fetch_legs : Meaning → ℕ → ℕ → ℕ → List Leg
fetch_legs m n s t = halved m n n s t

abbrev pub fetched : Meaning → ℕ → ℕ → Option ℕ → List Leg
fetched m s t None = []
fetched m s t (Some n) = fetch_legs m n s t

-- the legs of a plan: the first, then those of the fetch of its length
abbrev pub plan_legs : Meaning → Leg → List Leg
plan_legs m g = g ∷ fetched m g.start g.target (leg_length m g)

-- the settings that legs expand
abbrev pub count : Meaning → List Leg → ℕ
count m [] = 0
count m (g ∷ gs) = expanded m g + count m gs

-- the records that legs need
abbrev pub most_need : Meaning → List Leg → ℕ
most_need m [] = 0
most_need m (g ∷ gs) = max (need m g) (most_need m gs)

-- the list of a plan: the earliest of the first leg's length
abbrev pub listed : Meaning → ℕ → ℕ → Option ℕ → Option (List ℕ)
listed m s t None = None
listed m s t (Some n) = earliest m n s t

abbrev pub plan_list : Meaning → Leg → Option (List ℕ)
plan_list m g = listed m g.start g.target (leg_length m g)

-- the answer of a plan with that many records: its list
abbrev pub planned : Meaning → Leg → ℕ → Result (Counted (List ℕ)) Refusal
planned m g records =
    let legs = plan_legs m g in
    let full = nat_lt records (most_need m legs) in
    let list = plan_list m g in
    let number = count m legs in
    answer (outside m g) (too_high g) full list number
