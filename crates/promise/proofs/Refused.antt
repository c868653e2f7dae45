-- What is known where a call is not refused. Assumes nothing.
use Rattle.std.proofs.Common.{◌≡◌, ℕ, ◌<◌, Bool, true, false, cond, eqb, ltb, List, [], ◌∷◌, Some, None, Ok, Err, Option, Result, sym, refl, ap}
use Rattle.std.proofs.lemmas.Bool.{ltb-true, eqb-true}
use Rattle.plant.specs.Meaning.{Meaning}
use Rattle.plant.specs.declared.refusal.Refusal.{Refusal}
use Rattle.plant.specs.declared.refusal.Refusal.TheVariants.{NoSuchOperation, TaggedAlready, Untagged, NoSuchSetting, NoList, WrongOperation}
use Rattle.legs.proofs.Earliest.{some_none}
use Rattle.tagged.specs.Tags.{bears, tag_refusal, untag_refusal}
use Rattle.promise.specs.Readings.{Work}
use Rattle.promise.specs.States.{refusal_of, not_first, done_refusal}

-- a test whose failure is refused has not failed
passed : (b : Bool) (x : Option Refusal) (e : Refusal) → cond b x (Some e) ≡ None → b ≡ true
passed true x e h = refl
passed false x e h = absurd (some_none (Some e) e refl h)

pub tag_below : (m : Meaning) (tags : List Bool) (o : ℕ) → tag_refusal m tags o ≡ None → o < m.operations
tag_below m tags o h = ltb-true o m.operations (passed (ltb o m.operations) (cond (bears m tags o) (Some TaggedAlready) None) NoSuchOperation h)

pub untag_below : (m : Meaning) (tags : List Bool) (o : ℕ) → untag_refusal m tags o ≡ None → o < m.operations
untag_below m tags o h = ltb-true o m.operations (passed (ltb o m.operations) (cond (bears m tags o) None (Some Untagged)) NoSuchOperation h)

pub hand_below : (m : Meaning) (s : ℕ) → cond (ltb s m.settings) None (Some NoSuchSetting) ≡ None → s < m.settings
hand_below m s h = ltb-true s m.settings (passed (ltb s m.settings) None NoSuchSetting h)

pub answered_ok : {A : Type 0} (r : Result A Refusal) → refusal_of r ≡ None → (a : A) × (r ≡ Ok a)
answered_ok (Ok a) h = (a, refl)
answered_ok (Err e) h = absurd (some_none (Some e) e refl h)

pub first_of : (o : ℕ) (os : List ℕ) → not_first o os ≡ None → (ps : List ℕ) × (os ≡ o ∷ ps)
first_of o [] h = absurd (some_none (Some WrongOperation) WrongOperation refl h)
first_of o (p ∷ ps) h = (ps, ap (λ k. k ∷ ps) (sym (eqb-true o p (passed (eqb o p) None WrongOperation h))))

-- an operation that may be done is the first of the list in hand
pub done_first : (o : ℕ) (l : Option Work) → done_refusal o l ≡ None → (w : Work) × (ps : List ℕ) × (l ≡ Some w) × (w.to_do ≡ o ∷ ps)
done_first o None h = absurd (some_none (Some NoList) NoList refl h)
done_first o (Some w) h = let f = first_of o w.to_do h in (w, f.0, refl, f.1)
