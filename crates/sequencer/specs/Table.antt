-- The list that a list table holds, and what becomes of it when an operation is done. Assumes nothing.
use Rattle.std.specs.Prelude.{◌≡◌, ℕ, ◌-◌, List, take, drop, Some, None, Ok, Err, Option, Result}
use Rattle.plant.specs.declared.refusal.Refusal.{Refusal}
use Rattle.promise.specs.Readings.{Work}
use Rattle.legs.specs.Answers.{Counted}
use Rattle.promise.specs.States.{done_refusal, moved_on, replaced}
use Rattle.sequencer.specs.declared.sequencer.table.Table.{Table}

-- the operations between two places
abbrev pub between : List ℕ → ℕ → ℕ → List ℕ
between os begins ends = take (ends - begins) (drop begins os)

-- what is still to be done of a list, with its target
abbrev pub work_of : Table → Work
work_of x = record { target = x.target; to_do = between x.operations x.begins x.ends }

-- the same of the list in hand, if there is one
abbrev pub work_in : Option Table → Option Work
work_in None = None
work_in (Some x) = Some (work_of x)

-- the list loses its first, or the operation is refused and nothing changes
abbrev pub Moves : Option Work → ℕ → Option Work → Result Unit Refusal → Type 0
Moves before o after (Ok _) = (done_refusal o before ≡ None) × (after ≡ moved_on before)
Moves before o after (Err e) = (done_refusal o before ≡ Some e) × (after ≡ before)

-- what a plan answers: its count
abbrev pub count_of : Result (Counted (List ℕ)) Refusal → Result ℕ Refusal
count_of (Ok a) = Ok a.count
count_of (Err e) = Err e

-- by the answer of a plan, the list and its target are replaced and its count is told, or nothing changes
pub record Fills (planned : Result (Counted (List ℕ)) Refusal) (t : ℕ) (before after : Option Work) (r : Result ℕ Refusal) : Type 0 where
  pub answer : r ≡ count_of planned
  pub list : after ≡ replaced t before planned
