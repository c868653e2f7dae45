-- A plan in range, with records for the need of each leg, is answered rightly. Over any lawful meaning.
use Rattle.std.proofs.Common.{◌≡◌, ℕ, Bool, true, false, ltb, ◌↔◌, List, length, Some, None, Ok, Err, Option, Result, sym, refl, subst, ⊎_elim, arith}
use Rattle.plant.specs.Meaning.{Meaning}
use Rattle.plant.specs.Laws.{Lawful}
use Rattle.plant.specs.declared.refusal.Refusal.{Refusal}
use Rattle.plant.specs.declared.refusal.Refusal.TheVariants.{NoSuchOperation, TaggedAlready, Untagged, NoSuchSetting, Bound, Overfull, OutOfReach, NoList, WrongOperation}
use Rattle.legs.specs.Layers.{Leg}
use Rattle.legs.specs.Answers.{Counted, answer, outside, too_high}
use Rattle.legs.specs.Plans.{plan_legs, plan_list, most_need, count, planned}
use Rattle.legs.specs.PlanLaws.{InRange, Unreached, Plans}
use Rattle.legs.proofs.PlanLaws.{plans_lawful}
use Rattle.promise.specs.Promise.{LiesOutOfReach, RightPlan, Enough}
use Rattle.promise.proofs.Best.{best_from}

-- the answers that a search can give, with what was found
abbrev Searched : {A : Type 0} → Option A → Result (Counted A) Refusal → Type 0
Searched x (Ok a) = x ≡ Some a.found
Searched x (Err NoSuchSetting) = Unit {0}
Searched x (Err Bound) = Unit {0}
Searched x (Err Overfull) = Unit {0}
Searched x (Err OutOfReach) = Unit {0}
Searched x (Err NoSuchOperation) = ⊥
Searched x (Err TaggedAlready) = ⊥
Searched x (Err Untagged) = ⊥
Searched x (Err NoList) = ⊥
Searched x (Err WrongOperation) = ⊥

searched : {A : Type 0} (far high full : Bool) (x : Option A) (n : ℕ) → Searched x (answer far high full x n)
searched true high full x n = tt
searched false true full x n = tt
searched false false true x n = tt
searched false false false None n = tt
searched false false false (Some a) n = refl

planned_searched : (m : Meaning) (g : Leg) (n : ℕ) → Searched (plan_list m g) (planned m g n)
planned_searched m g n =
    searched (outside m g) (too_high g) (ltb n (most_need m (plan_legs m g))) (plan_list m g) (count m (plan_legs m g))

-- an accepted plan has the list of the definition
pub planned_found : (m : Meaning) (g : Leg) (n : ℕ) (a : Counted (List ℕ)) → planned m g n ≡ Ok a → plan_list m g ≡ Some a.found
planned_found m g n a e = subst (Searched (plan_list m g)) e (planned_searched m g n)

module _ (m : Meaning) (lawful : Lawful m) (g : Leg) (n : ℕ) where
  laws : Plans m
  laws = (plans_lawful m lawful).plans

  -- the list of an accepted plan is the best
  pub planned_right : (a : Counted (List ℕ)) → planned m g n ≡ Ok a → RightPlan m g a
  planned_right a e =
      let r = ((laws.accepted g n a).0 e).2 in
      record {
        within = r.0.0;
        best = best_from m g.start g.target a.found r.0.1 r.0.2;
        counted = sym r.1;
      }

  unreached : Unreached m g → LiesOutOfReach m g
  unreached h ps short l = h (length ps) short (ps, refl, l)

  out_of_reach : LiesOutOfReach m g → Unreached m g
  out_of_reach h k short l = h l.0 (omega (arith, l.1)) l.2

  module _ (range : InRange m g) (enough : Enough m g n) where
    pub refused_rightly : (planned m g n ≡ Err OutOfReach) ↔ LiesOutOfReach m g
    refused_rightly = (λ e. unreached ((laws.out_of_reach g n).0 e).2, λ h. (laws.out_of_reach g n).1 (range, enough, out_of_reach h))

    pub accepted_otherwise : (LiesOutOfReach m g → ⊥) → (a : Counted (List ℕ)) × (planned m g n ≡ Ok a) × RightPlan m g a
    accepted_otherwise reached = split (planned m g n) refl (planned_searched m g n)
      where
        split : (r : Result (Counted (List ℕ)) Refusal) → planned m g n ≡ r → Searched (plan_list m g) r → (a : Counted (List ℕ)) × (planned m g n ≡ Ok a) × RightPlan m g a
        split (Ok a) e f = (a, e, planned_right a e)
        split (Err NoSuchSetting) e f =
            absurd (⊎_elim (λ h. omega (arith, h, range.0)) (λ h. omega (arith, h, range.1)) ((laws.no_such_setting g n).0 e))
        split (Err Bound) e f = absurd (omega (arith, ((laws.bound g n).0 e).2, range.2))
        split (Err Overfull) e f =
            let crowded = ((laws.overfull g n).0 e).1 in
            absurd (omega (arith, crowded.2, enough crowded.0 crowded.1))
        split (Err OutOfReach) e f = absurd (reached (refused_rightly.0 e))
        split (Err NoSuchOperation) e f = absurd f
        split (Err TaggedAlready) e f = absurd f
        split (Err Untagged) e f = absurd f
        split (Err NoList) e f = absurd f
        split (Err WrongOperation) e f = absurd f
