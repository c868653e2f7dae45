-- The state that a sequencer is in, and what a call on it answers and leaves. Assumes nothing.
use Rattle.std.specs.Prelude.{◌≡◌, ℕ, Some, None, Ok, Err, Option, Result}
use Rattle.plant.specs.Meaning.{Meaning}
use Rattle.plant.specs.declared.refusal.Refusal.{Refusal}
use Rattle.tagged.specs.Tagged.{tags_of, below_of}
use Rattle.promise.specs.Calls.{Call, plan}
use Rattle.promise.specs.States.{State, asked, refusal, next}
use Rattle.sequencer.specs.declared.sequencer.Sequencer.{Sequencer}
use Rattle.sequencer.specs.Table.{work_in, count_of}

abbrev pub state_of : {P : Type 0} → Sequencer P → State
state_of x = record { setting = x.setting; tags = tags_of x.plant; list = work_in x.list }

-- the plant that the sequencer is made over
abbrev pub under : {P : Type 0} → Sequencer P → P
under x = below_of x.plant

-- the answer of a call that answers nothing else
abbrev pub told : Option Refusal → Result Unit Refusal
told None = Ok tt
told (Some e) = Err e

-- the call is accepted or refused by the rules, and changes the state by them: a refused call changes nothing
pub record Carried (m : Meaning) (before : State) (k : Call) (after : State) (r : Result Unit Refusal) : Type 0 where
  pub answer : r ≡ told (refusal m before k)
  pub state : after ≡ next m before k

-- a plan answers its count or its refusal, and changes the state by the rules
pub record Planned (m : Meaning) (before : State) (t b n : ℕ) (after : State) (r : Result ℕ Refusal) : Type 0 where
  pub answer : r ≡ count_of (asked m before t b n)
  pub state : after ≡ next m before (plan t b n)
