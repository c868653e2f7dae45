-- The six calls that change a sequencer, and what is recorded of each: the call and its refusal. Assumes nothing.
use Rattle.std.specs.Prelude.{ℕ, List, [], ◌∷◌, Some, None, Option}
use Rattle.plant.specs.declared.refusal.Refusal.{Refusal}

pub data Call : Type 0 where
  tag : ℕ → Call
  untag : ℕ → Call
  -- the target, the bound, and how many records are lent
  plan : ℕ → ℕ → ℕ → Call
  done : ℕ → Call
  drop_list : Call
  hand_move : ℕ → Call

-- a call with the refusal that it was given, if any
pub record Event : Type 0 where
  pub call : Call
  pub refused : Option Refusal

abbrev pub accepted_first : Option Refusal → Call → List Call → List Call
accepted_first None k ks = k ∷ ks
accepted_first (Some e) k ks = ks

-- the accepted calls of a history, the newest first: a refused call counts for nothing
abbrev pub accepted : List Event → List Call
accepted [] = []
accepted (e ∷ es) = accepted_first e.refused e.call (accepted es)
