-- What the accepted calls alone, the newest first, tell of the setting, the tags and the list in hand. Assumes nothing.
use Rattle.std.specs.Prelude.{◌≡◌, ℕ, suc, Bool, true, false, cond, not, ◌&&◌, ◌||◌, List, [], ◌∷◌, ◌++◌, drop, Some, None, Option}
use Rattle.plant.specs.Meaning.{Meaning}
use Rattle.tagged.specs.Tags.{covers}
use Rattle.legs.specs.Layers.{Leg}
use Rattle.legs.specs.Lists.{landing}
use Rattle.legs.specs.Plans.{plan_list}
use Rattle.promise.specs.Calls.{Call, tag, untag, plan, done, drop_list, hand_move}

-- the present setting: 0 at first, s after a hand move to s, and after done o the one that o steps to
abbrev pub setting_of : Meaning → List Call → ℕ
setting_of m [] = 0
setting_of m (tag o ∷ ks) = setting_of m ks
setting_of m (untag o ∷ ks) = setting_of m ks
setting_of m (plan t b n ∷ ks) = setting_of m ks
setting_of m (done o ∷ ks) =
    let s = setting_of m ks in
    landing s (m.step s o)
setting_of m (drop_list ∷ ks) = setting_of m ks
setting_of m (hand_move s ∷ ks) = s

-- whether a tag has covered operation k and no untag has since
abbrev pub tagged_in : Meaning → List Call → ℕ → Bool
tagged_in m [] k = false
tagged_in m (tag o ∷ ks) k = covers m o k || tagged_in m ks k
tagged_in m (untag o ∷ ks) k = not (covers m o k) && tagged_in m ks k
tagged_in m (plan t b n ∷ ks) k = tagged_in m ks k
tagged_in m (done o ∷ ks) k = tagged_in m ks k
tagged_in m (drop_list ∷ ks) k = tagged_in m ks k
tagged_in m (hand_move s ∷ ks) k = tagged_in m ks k

-- no untag among the calls covers operation k
abbrev pub NoneFrees : Meaning → ℕ → List Call → Type 0
NoneFrees m k [] = Unit {0}
NoneFrees m k (tag o ∷ ks) = NoneFrees m k ks
NoneFrees m k (untag o ∷ ks) = (covers m o k ≡ false) × NoneFrees m k ks
NoneFrees m k (plan t b n ∷ ks) = NoneFrees m k ks
NoneFrees m k (done o ∷ ks) = NoneFrees m k ks
NoneFrees m k (drop_list ∷ ks) = NoneFrees m k ks
NoneFrees m k (hand_move s ∷ ks) = NoneFrees m k ks

-- the same as a relation: a tag on o covered operation k, and no untag has since
pub record TaggedSince (m : Meaning) (ks : List Call) (k : ℕ) : Type 0 where
  pub since : List Call
  pub o : ℕ
  pub before : List Call
  pub calls : ks ≡ since ++ (tag o ∷ before)
  pub covered : covers m o k ≡ true
  pub not_freed : NoneFrees m k since

-- the plant with some operations taken out
abbrev pub without : Meaning → (ℕ → Bool) → Meaning
without m out = record {
  settings = m.settings;
  operations = m.operations;
  step = λ s o. cond (out o) None (m.step s o);
  reverse = m.reverse;
  estimate = m.estimate;
}

-- the plant with the tagged operations taken out: its lists are the lists of untagged operations
abbrev pub untagged_plant : Meaning → List Call → Meaning
untagged_plant m ks = without m (tagged_in m ks)

-- from the present setting to a target
abbrev pub leg_of : Meaning → List Call → ℕ → ℕ → Leg
leg_of m ks t b = record { start = setting_of m ks; target = t; bound = b }

-- what a plan asked for, and the accepted calls before it
pub record Asked : Type 0 where
  pub target : ℕ
  pub bound : ℕ
  pub before : List Call

-- the last accepted plan, if there was one
abbrev pub last_plan : List Call → Option Asked
last_plan [] = None
last_plan (tag o ∷ ks) = last_plan ks
last_plan (untag o ∷ ks) = last_plan ks
last_plan (plan t b n ∷ ks) = Some (record { target = t; bound = b; before = ks })
last_plan (done o ∷ ks) = last_plan ks
last_plan (drop_list ∷ ks) = last_plan ks
last_plan (hand_move s ∷ ks) = last_plan ks

-- the accepted calls since then
abbrev pub since_plan : List Call → List Call
since_plan [] = []
since_plan (tag o ∷ ks) = tag o ∷ since_plan ks
since_plan (untag o ∷ ks) = untag o ∷ since_plan ks
since_plan (plan t b n ∷ ks) = []
since_plan (done o ∷ ks) = done o ∷ since_plan ks
since_plan (drop_list ∷ ks) = drop_list ∷ since_plan ks
since_plan (hand_move s ∷ ks) = hand_move s ∷ since_plan ks

abbrev pub or_empty : Option (List ℕ) → List ℕ
or_empty None = []
or_empty (Some os) = os

-- the list of that plan, by its definition, from the setting and by the operations untagged at that call
abbrev pub planned_list : Meaning → Asked → List ℕ
planned_list m a = or_empty (plan_list (untagged_plant m a.before) (leg_of m a.before a.target a.bound))

-- how many operations of the list are done by then: one for each accepted done
abbrev pub dones : List Call → ℕ
dones [] = 0
dones (tag o ∷ ks) = dones ks
dones (untag o ∷ ks) = dones ks
dones (plan t b n ∷ ks) = dones ks
dones (done o ∷ ks) = suc (dones ks)
dones (drop_list ∷ ks) = dones ks
dones (hand_move s ∷ ks) = dones ks

-- whether a tag on o covers an operation of the list
abbrev pub touches : Meaning → ℕ → List ℕ → Bool
touches m o [] = false
touches m o (p ∷ ps) = covers m o p || touches m o ps

-- no untag, drop or hand move, no other plan, and no tag on an operation of the list that was not done by then
abbrev pub Lasts : Meaning → List ℕ → List Call → Type 0
Lasts m os [] = Unit {0}
Lasts m os (tag o ∷ ks) = Lasts m os ks × (touches m o (drop (dones ks) os) ≡ false)
Lasts m os (untag o ∷ ks) = ⊥
Lasts m os (plan t b n ∷ ks) = ⊥
Lasts m os (done o ∷ ks) = Lasts m os ks
Lasts m os (drop_list ∷ ks) = ⊥
Lasts m os (hand_move s ∷ ks) = ⊥

-- a list in hand: its target, and the operations still to be done
pub record Work : Type 0 where
  pub target : ℕ
  pub to_do : List ℕ

-- of the plan a, with the calls since: the list has lasted, and its first operations are done, one for each done
abbrev pub LeftOf : Meaning → List Call → Option Asked → Work → Type 0
LeftOf m since None w = ⊥
LeftOf m since (Some a) w =
    Lasts m (planned_list m a) since × (w.target ≡ a.target) × (w.to_do ≡ drop (dones since) (planned_list m a))

-- by the calls, w is in hand
abbrev pub InHand : Meaning → List Call → Work → Type 0
InHand m ks w = LeftOf m (since_plan ks) (last_plan ks) w
