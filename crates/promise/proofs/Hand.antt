-- What each accepted call makes of the list that is read from the calls. Assumes nothing.
use Rattle.std.proofs.Common.{◌≡◌, ℕ, zero, suc, Bool, true, false, cond, ◌↔◌, List, [], ◌∷◌, drop, Some, None, Option, sym, refl, ap, ◌∙◌, subst}
use Rattle.plant.specs.Meaning.{Meaning}
use Rattle.legs.proofs.Earliest.{some_none}
use Rattle.promise.specs.Calls.{Call, tag, done}
use Rattle.promise.specs.Readings.{Asked, Work, planned_list, dones, touches, LeftOf}
use Rattle.promise.specs.States.{spared, behind_first, moved_on}

pub work_is : (v w : Work) → v.target ≡ w.target → v.to_do ≡ w.to_do → v ≡ w
work_is v w p q = λ i. record { target = p i; to_do = q i }

pub some_same : {A : Type 0} (a b : A) → Some a ≡ Some b → a ≡ b
some_same a b e = cc

-- the list that a tag leaves is the one that was there, and the tag touches none of it
module _ (m : Meaning) (o : ℕ) where
  pub spared_some : (l : Option Work) (w : Work) → spared m o l ≡ Some w → (l ≡ Some w) × (touches m o w.to_do ≡ false)
  spared_some None w e = absurd (some_none (Some w) w refl (sym e))
  spared_some (Some v) w e = split (touches m o v.to_do) refl e
    where
      split : (b : Bool) → touches m o v.to_do ≡ b → cond b None (Some v) ≡ Some w → (Some v ≡ Some w) × (touches m o w.to_do ≡ false)
      split true x h = absurd (some_none (Some w) w refl (sym h))
      split false x h = (h, subst (λ y. touches m o y.to_do ≡ false) (some_same v w h) x)

  pub some_spared : (l : Option Work) (w : Work) → l ≡ Some w → touches m o w.to_do ≡ false → spared m o l ≡ Some w
  some_spared l w e free = ap (spared m o) e ∙ ap (λ b. cond b None (Some w)) free

  pub left_spared : (since : List Call) (x : Option Asked) (w : Work) → LeftOf m since x w → touches m o w.to_do ≡ false → LeftOf m (tag o ∷ since) x w
  left_spared since None w h free = h
  left_spared since (Some a) w h free = ((h.0, subst (λ os. touches m o os ≡ false) h.2 free), h.1, h.2)

  pub spared_left : (since : List Call) (x : Option Asked) (w : Work) → LeftOf m (tag o ∷ since) x w → LeftOf m since x w × (touches m o w.to_do ≡ false)
  spared_left since None w h = absurd h
  spared_left since (Some a) w h = ((h.0.0, h.1, h.2), subst (λ os. touches m o os ≡ false) (sym h.2) h.0.1)

  -- a tag
  pub tag_list :
      (since : List Call) (x : Option Asked) (l : Option Work) → ((w : Work) → (l ≡ Some w) ↔ LeftOf m since x w)
      → (w : Work) → (spared m o l ≡ Some w) ↔ LeftOf m (tag o ∷ since) x w
  tag_list since x l told w = (
    λ e. let s = spared_some l w e in left_spared since x w ((told w).0 s.0) s.1,
    λ h. let s = spared_left since x w h in some_spared l w ((told w).1 s.0) s.1,
  )

behind_drop : (n : ℕ) (os : List ℕ) → behind_first (drop n os) ≡ drop (suc n) os
behind_drop zero [] = refl
behind_drop zero (o ∷ os) = refl
behind_drop (suc n) [] = refl
behind_drop (suc n) (o ∷ os) = behind_drop n os

abbrev on : Work → Work
on w = record { target = w.target; to_do = behind_first w.to_do }

module _ (m : Meaning) (o : ℕ) where
  left_on : (since : List Call) (x : Option Asked) (w : Work) → LeftOf m since x w → LeftOf m (done o ∷ since) x (on w)
  left_on since None w h = h
  left_on since (Some a) w h = (h.0, h.1, ap behind_first h.2 ∙ behind_drop (dones since) (planned_list m a))

  on_left : (since : List Call) (x : Option Asked) (w : Work) → LeftOf m (done o ∷ since) x w → (v : Work) × LeftOf m since x v × (on v ≡ w)
  on_left since None w h = absurd h
  on_left since (Some a) w h =
      let rest = drop (dones since) (planned_list m a) in
      let v : Work = record { target = a.target; to_do = rest } in
      (v, (h.0, refl, refl), work_is (on v) w (sym h.1) (behind_drop (dones since) (planned_list m a) ∙ sym h.2))

  moved_some : (l : Option Work) (w : Work) → moved_on l ≡ Some w → (v : Work) × (l ≡ Some v) × (on v ≡ w)
  moved_some None w e = absurd (some_none (Some w) w refl (sym e))
  moved_some (Some v) w e = (v, refl, some_same (on v) w e)

  -- a done
  pub done_list :
      (since : List Call) (x : Option Asked) (l : Option Work) → ((w : Work) → (l ≡ Some w) ↔ LeftOf m since x w)
      → (w : Work) → (moved_on l ≡ Some w) ↔ LeftOf m (done o ∷ since) x w
  done_list since x l told w = (
    λ e. let s = moved_some l w e in subst (LeftOf m (done o ∷ since) x) s.2 (left_on since x s.0 ((told s.0).0 s.1)),
    λ h. let s = on_left since x w h in ap moved_on ((told s.0).1 s.1) ∙ ap (λ v. Some v) s.2,
  )

-- a call that ends the list
pub ended_list : (m : Meaning) (k : Call) (since : List Call) (x : Option Asked) → ((w : Work) → LeftOf m (k ∷ since) x w → ⊥) → (w : Work) → (None ≡ Some w) ↔ LeftOf m (k ∷ since) x w
ended_list m k since x never w = (λ e. absurd (some_none (Some w) w refl (sym e)), λ h. absurd (never w h))
