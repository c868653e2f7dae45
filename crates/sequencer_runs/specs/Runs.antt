-- What the rules make of some calls on a bench of two valves, of 3 and 2 positions. Assumes nothing.
use Rattle.std.specs.Prelude.{◌≡◌, ℕ, true, List, [], ◌∷◌, Some, None, Option}
use Rattle.plant.specs.Meaning.{Meaning}
use Rattle.plant.specs.declared.refusal.Refusal.{Refusal}
use Rattle.plant.specs.declared.refusal.Refusal.TheVariants.{TaggedAlready, Overfull, OutOfReach, WrongOperation}
use Rattle.valves.specs.Bench.{bench}
use Rattle.sample_plants.specs.BenchA.{positions, interlocks}
use Rattle.promise.specs.Calls.{Call, tag, untag, plan, done, drop_list, hand_move, accepted}
use Rattle.promise.specs.Readings.{Work, setting_of, tagged_in}
use Rattle.promise.specs.States.{refusal, after_calls, history}

abbrev pub bench_a : Meaning
bench_a = bench positions interlocks

-- the list in hand after the calls, the newest first
abbrev pub list_after : List Call → Option Work
list_after ks = (after_calls bench_a ks).list

-- the refusal of one call more
abbrev pub refused_after : List Call → Call → Option Refusal
refused_after ks k = refusal bench_a (after_calls bench_a ks) k

-- what is read from the accepted calls
abbrev pub setting_after : List Call → ℕ
setting_after ks = setting_of bench_a (accepted (history bench_a ks))

abbrev pub in_hand : ℕ → List ℕ → Option Work
in_hand t os = Some (record { target = t; to_do = os })

-- a list to setting 2, and the first two operations of it done
abbrev pub half_done : List Call
half_done = done 2 ∷ done 0 ∷ plan 2 4 4 ∷ []

-- a hand move, a list home, and the first two operations of it done
abbrev pub nearly_home : List Call
nearly_home = done 1 ∷ done 1 ∷ plan 0 255 8 ∷ hand_move 5 ∷ []

pub record Runs : Type 0 where
  pub planned : list_after (plan 2 4 4 ∷ []) ≡ in_hand 2 (0 ∷ 2 ∷ 0 ∷ 3 ∷ [])
  pub worked : list_after half_done ≡ in_hand 2 (0 ∷ 3 ∷ [])
  pub stepped : setting_after half_done ≡ 4
  -- another operation than the next is refused
  pub wrong : refused_after half_done (done 3) ≡ Some WrongOperation
  -- operation 2 is done, but its reverse, 3, is still to be done: the tag ends the list
  pub ended : list_after (tag 2 ∷ half_done) ≡ None
  pub covered : tagged_in bench_a (accepted (history bench_a (tag 2 ∷ half_done))) 3 ≡ true
  pub twice : refused_after (tag 2 ∷ half_done) (tag 3) ≡ Some TaggedAlready
  pub unreached : refused_after (tag 2 ∷ half_done) (plan 2 255 8) ≡ Some OutOfReach
  -- a refused plan keeps the old list
  pub crowded : refused_after half_done (plan 0 255 1) ≡ Some Overfull
  pub kept : list_after (plan 0 255 1 ∷ half_done) ≡ in_hand 2 (0 ∷ 3 ∷ [])
  -- the empty list is in hand, until it is dropped
  pub finished : list_after (done 3 ∷ done 0 ∷ half_done) ≡ in_hand 2 []
  pub nothing_left : refused_after (done 3 ∷ done 0 ∷ half_done) (done 3) ≡ Some WrongOperation
  pub dropped : list_after (drop_list ∷ done 3 ∷ done 0 ∷ half_done) ≡ None
  -- a tag on operations that are done already spares the list; an untag ends it
  pub spared : list_after (tag 1 ∷ nearly_home) ≡ in_hand 0 (3 ∷ [])
  pub freed : list_after (untag 1 ∷ tag 1 ∷ nearly_home) ≡ None
