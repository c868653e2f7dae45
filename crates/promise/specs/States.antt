-- The state of a sequencer over a plant, why a call is refused in it, and what an accepted call makes of it. Assumes nothing.
use Rattle.std.specs.Prelude.{ℕ, Bool, true, false, cond, List, [], ◌∷◌, Some, None, Ok, Err, Option, Result, ◌==◌, nat_lt}
use Rattle.plant.specs.Meaning.{Meaning}
use Rattle.plant.specs.declared.refusal.Refusal.{Refusal}
use Rattle.plant.specs.declared.refusal.Refusal.TheVariants.{NoSuchSetting, NoList, WrongOperation}
use Rattle.tagged.specs.Tags.{untagged, cover, tag_refusal, untag_refusal}
use Rattle.tagged.specs.Meaning.{tagged}
use Rattle.legs.specs.Lists.{landing}
use Rattle.legs.specs.Answers.{Counted}
use Rattle.legs.specs.Plans.{planned}
use Rattle.promise.specs.Calls.{Call, tag, untag, plan, done, drop_list, hand_move, Event}
use Rattle.promise.specs.Readings.{Work, touches}

pub record State : Type 0 where
  pub setting : ℕ
  pub tags : List Bool
  pub list : Option Work

-- as it is made
abbrev pub fresh : State
fresh = record { setting = 0; tags = untagged; list = None }

-- what a plan asked now answers
abbrev pub asked : Meaning → State → ℕ → ℕ → ℕ → Result (Counted (List ℕ)) Refusal
asked m q t b n = planned (tagged m q.tags) (record { start = q.setting; target = t; bound = b }) n

abbrev pub refusal_of : {A : Type 0} → Result A Refusal → Option Refusal
refusal_of (Ok a) = None
refusal_of (Err e) = Some e

-- the operation is the first of those still to be done
abbrev pub not_first : ℕ → List ℕ → Option Refusal
not_first o [] = Some WrongOperation
not_first o (p ∷ ps) = cond (o == p) None (Some WrongOperation)

abbrev pub done_refusal : ℕ → Option Work → Option Refusal
done_refusal o None = Some NoList
done_refusal o (Some w) = not_first o w.to_do

abbrev pub drop_refusal : Option Work → Option Refusal
drop_refusal None = Some NoList
drop_refusal (Some w) = None

-- why the call is refused, if it is
abbrev pub refusal : Meaning → State → Call → Option Refusal
refusal m q (tag o) = tag_refusal m q.tags o
refusal m q (untag o) = untag_refusal m q.tags o
refusal m q (plan t b n) = refusal_of (asked m q t b n)
refusal m q (done o) = done_refusal o q.list
refusal m q drop_list = drop_refusal q.list
refusal m q (hand_move s) = cond (nat_lt s m.settings) None (Some NoSuchSetting)

-- the list goes if a tag on o covers what is still to be done of it
abbrev pub spared : Meaning → ℕ → Option Work → Option Work
spared m o None = None
spared m o (Some w) = cond (touches m o w.to_do) None (Some w)

abbrev pub behind_first : List ℕ → List ℕ
behind_first [] = []
behind_first (o ∷ os) = os

-- the list loses its first
abbrev pub moved_on : Option Work → Option Work
moved_on None = None
moved_on (Some w) = Some (record { target = w.target; to_do = behind_first w.to_do })

-- the list of an accepted plan
abbrev pub replaced : ℕ → Option Work → Result (Counted (List ℕ)) Refusal → Option Work
replaced t old (Ok a) = Some (record { target = t; to_do = a.found })
replaced t old (Err e) = old

-- what the call makes of the state where it is accepted
abbrev pub effect : Meaning → State → Call → State
effect m q (tag o) = record { setting = q.setting; tags = cover m q.tags o true; list = spared m o q.list }
effect m q (untag o) = record { setting = q.setting; tags = cover m q.tags o false; list = None }
effect m q (plan t b n) = record { setting = q.setting; tags = q.tags; list = replaced t q.list (asked m q t b n) }
effect m q (done o) = record { setting = landing q.setting (m.step q.setting o); tags = q.tags; list = moved_on q.list }
effect m q drop_list = record { setting = q.setting; tags = q.tags; list = None }
effect m q (hand_move s) = record { setting = s; tags = q.tags; list = None }

-- a refused call changes nothing
abbrev pub unless_refused : Option Refusal → State → State → State
unless_refused None q after = after
unless_refused (Some e) q after = q

abbrev pub next : Meaning → State → Call → State
next m q k = unless_refused (refusal m q k) q (effect m q k)

-- the state after the calls, the newest first, from the making on
abbrev pub after_calls : Meaning → List Call → State
after_calls m [] = fresh
after_calls m (k ∷ ks) = next m (after_calls m ks) k

-- those calls, each accepted or refused by the rules
abbrev pub history : Meaning → List Call → List Event
history m [] = []
history m (k ∷ ks) = record { call = k; refused = refusal m (after_calls m ks) k } ∷ history m ks
