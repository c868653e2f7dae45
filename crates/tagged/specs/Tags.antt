-- Which operations bear a tag, and what tagging and untagging answer and leave. Assumes nothing.
use Rattle.std.specs.Prelude.{◌≡◌, ℕ, Bool, true, false, cond, ◌&&◌, ◌||◌, List, replicate, Some, None, Ok, Err, Option, Result, ◌==◌, nat_lt, slice_index_or, slice_set}
use Rattle.plant.specs.declared.refusal.Refusal.{Refusal}
use Rattle.plant.specs.declared.refusal.Refusal.TheVariants.{NoSuchOperation, TaggedAlready, Untagged}
use Rattle.plant.specs.Meaning.{Meaning}

-- no operation bears a tag
abbrev pub untagged : List Bool
untagged = replicate 2048 false

-- the operation is one of the plant, and it or its reverse bears a tag
abbrev pub bears : Meaning → List Bool → ℕ → Bool
bears m tags o = nat_lt o m.operations && (slice_index_or tags o false || slice_index_or tags (m.reverse o) false)

-- the operations that a tag on o covers: o and its reverse
abbrev pub covers : Meaning → ℕ → ℕ → Bool
covers m o k = k == o || k == m.reverse o

-- the tags with o and its reverse tagged, or freed
abbrev pub cover : Meaning → List Bool → ℕ → Bool → List Bool
cover m tags o on = slice_set (slice_set tags o on) (m.reverse o) on

-- o and its reverse, and no other operation, are now tagged, or freed
pub record Covered (m : Meaning) (before : List Bool) (o : ℕ) (on : Bool) (after : List Bool) : Type 0 where
  pub tags_are : after ≡ cover m before o on
  pub only_these : (k : ℕ) → bears m after k ≡ cond (covers m o k) on (bears m before k)

-- why a tag, or the end of one, is refused, if it is
abbrev pub tag_refusal : Meaning → List Bool → ℕ → Option Refusal
tag_refusal m tags o = cond (nat_lt o m.operations) (cond (bears m tags o) (Some TaggedAlready) None) (Some NoSuchOperation)

abbrev pub untag_refusal : Meaning → List Bool → ℕ → Option Refusal
untag_refusal m tags o = cond (nat_lt o m.operations) (cond (bears m tags o) None (Some Untagged)) (Some NoSuchOperation)

-- what a call that may be refused answers and leaves: a refusal changes nothing
abbrev pub Outcome : Option Refusal → Meaning → List Bool → ℕ → Bool → List Bool → Result Unit Refusal → Type 0
Outcome refusal m before o on after (Ok _) = (refusal ≡ None) × Covered m before o on after
Outcome refusal m before o on after (Err e) = (refusal ≡ Some e) × (after ≡ before)

abbrev pub Tags : Meaning → List Bool → ℕ → List Bool → Result Unit Refusal → Type 0
Tags m before o after r = Outcome (tag_refusal m before o) m before o true after r

abbrev pub Untags : Meaning → List Bool → ℕ → List Bool → Result Unit Refusal → Type 0
Untags m before o after r = Outcome (untag_refusal m before o) m before o false after r
