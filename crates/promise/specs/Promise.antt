-- What a sequencer promises over the calls from its making on, in the words of the subject. Assumes nothing.
use Rattle.std.specs.Prelude.{◌≡◌, ℕ, ◌<◌, ◌≤◌, true, ◌⊎◌, ◌↔◌, List, ◌∷◌, length, Some, Ok, Err}
use Rattle.plant.specs.Meaning.{Meaning, Leads}
use Rattle.plant.specs.Laws.{Lawful}
use Rattle.plant.specs.declared.refusal.Refusal.TheVariants.{OutOfReach}
use Rattle.tagged.specs.Tags.{bears}
use Rattle.legs.specs.Layers.{Leg, In}
use Rattle.legs.specs.Legs.{need}
use Rattle.legs.specs.Lists.{Earlier}
use Rattle.legs.specs.Answers.{Counted}
use Rattle.legs.specs.Plans.{plan_legs, count}
use Rattle.promise.specs.Calls.{Call, accepted}
use Rattle.promise.specs.Readings.{Work, setting_of, tagged_in, TaggedSince, untagged_plant, leg_of, InHand}
use Rattle.promise.specs.States.{State, asked, after_calls, history}

-- the list leads from s to t; every other that does has at least as many operations, and those with as many come later
pub record Best (m : Meaning) (s t : ℕ) (os : List ℕ) : Type 0 where
  pub leads : Leads m s os t
  pub shortest : (ps : List ℕ) → Leads m s ps t → length os ≤ length ps
  pub earliest : (ps : List ℕ) → Leads m s ps t → length ps ≡ length os → (os ≡ ps) ⊎ Earlier os ps

-- no list of at most that many operations leads from start to target
abbrev pub LiesOutOfReach : Meaning → Leg → Type 0
LiesOutOfReach m g = (ps : List ℕ) → length ps ≤ g.bound → Leads m g.start ps g.target → ⊥

-- a plan of the leg, in the plant with the tagged operations taken out: its list and its count
pub record RightPlan (m : Meaning) (g : Leg) (a : Counted (List ℕ)) : Type 0 where
  pub within : length a.found ≤ g.bound
  pub best : Best m g.start g.target a.found
  pub counted : a.count ≡ count m (plan_legs m g)

-- a plan with records for the need of each of its legs is refused as out of reach exactly when no untagged list within
-- the bound leads there, and is accepted with the right list and count otherwise
pub record Answered (m : Meaning) (ks : List Call) (q : State) (t b n : ℕ) : Type 0 where
  pub refused : (asked m q t b n ≡ Err OutOfReach) ↔ LiesOutOfReach (untagged_plant m ks) (leg_of m ks t b)
  pub otherwise :
      (LiesOutOfReach (untagged_plant m ks) (leg_of m ks t b) → ⊥)
      → (a : Counted (List ℕ)) × (asked m q t b n ≡ Ok a) × RightPlan (untagged_plant m ks) (leg_of m ks t b) a

-- records for the need of each leg of the plan
abbrev pub Enough : Meaning → Leg → ℕ → Type 0
Enough m g n = (l : Leg) → In l (plan_legs m g) → need m l ≤ n

-- what holds of the state q, if ks are the accepted calls from the making on, the newest first
pub record Holds (m : Meaning) (ks : List Call) (q : State) : Type 0 where
  -- the setting and the tags are those read from the accepted calls alone
  pub setting_told : q.setting ≡ setting_of m ks
  pub tags_told : (o : ℕ) → bears m q.tags o ≡ tagged_in m ks o
  pub tags_since : (o : ℕ) → (tagged_in m ks o ≡ true) ↔ TaggedSince m ks o
  -- a list is in hand exactly when the accepted calls say so, and is what they leave of it
  pub list_told : (w : Work) → (q.list ≡ Some w) ↔ InHand m ks w
  -- it is the earliest of the shortest from the present setting to its target, by untagged operations
  pub list_best : (w : Work) → q.list ≡ Some w → Best (untagged_plant m ks) (setting_of m ks) w.target w.to_do
  -- a plan asked now is answered rightly
  pub plan_answered :
      (t b n : ℕ) → t < m.settings → b ≤ 255 → Enough (untagged_plant m ks) (leg_of m ks t b) n
      → Answered m ks q t b n

-- after any calls from the making on, each accepted or refused by the rules, it holds
abbrev pub PromiseKept : Type 0
PromiseKept = (m : Meaning) → Lawful m → (ks : List Call) → Holds m (accepted (history m ks)) (after_calls m ks)

-- a call is one more of the calls from the making on, and what was promised holds after it
abbrev pub KeepsOn : Meaning → State → Call → State → Type 0
KeepsOn m before k after =
    (ks : List Call) → before ≡ after_calls m ks
    → (after ≡ after_calls m (k ∷ ks)) × Holds m (accepted (history m (k ∷ ks))) after
