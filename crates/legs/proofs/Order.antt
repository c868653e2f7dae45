-- Layers are in the order of the lists that their records came by, and each record is the earliest arrival at its setting. Assumes nothing.
use Rattle.std.proofs.Common.{◌≡◌, ℕ, zero, suc, Bool, true, false, cond, not, ◌||◌, List, [], ◌∷◌, ◌++◌, Some, None, Option, sym, refl, ap, ◌∙◌, subst, inl, inr, ⊎_elim}
use Rattle.std.proofs.lemmas.Bool.{both_ways}
use Rattle.plant.specs.Meaning.{Meaning}
use Rattle.legs.specs.Kinds.{Kind}
use Rattle.legs.specs.Layers.{Leg, has, fits, kept, grown, In}
use Rattle.legs.proofs.Members.{in_append_cases, has_here}
use Rattle.legs.proofs.Kept.{kept_in, kept_unmet}
use Rattle.legs.proofs.Earlier.{Before, Upto}
use Rattle.legs.proofs.Ways.{Way, way_kind, way_arrival, way_reached, way_arrivals, ways, in_reached, in_arrivals}

module _ {R : Type 0} where
  -- the lists rise
  abbrev pub Sorted : List (Way R) → Type 0
  Sorted [] = Unit {0}
  Sorted (w ∷ ws) = ((v : Way R) → In v ws → Before w.ops v.ops) × Sorted ws

  sorted_append : (vs ws : List (Way R)) → Sorted vs → Sorted ws → ((v w : Way R) → In v vs → In w ws → Before v.ops w.ops) → Sorted (vs ++ ws)
  sorted_append [] ws a b c = b
  sorted_append (v ∷ vs) ws a b c = (
    λ w i. ⊎_elim (λ l. a.0 w l) (λ l. c v w (inl refl) l) (in_append_cases w vs ws i),
    sorted_append vs ws a.1 b (λ x w i l. c x w (inr i) l),
  )

module _ {R : Type 0} (m : Meaning) (k : Kind R) where
  sorted_arrival : (d : ℕ) (w : Way R) (o : ℕ) (t : Option ℕ) → Sorted (way_arrival m k d w o t)
  sorted_arrival d w o None = tt
  sorted_arrival d w o (Some u) = (λ v i. absurd i, tt)

  arrival_ops : (d : ℕ) (w : Way R) (o : ℕ) (t : Option ℕ) (v : Way R) → In v (way_arrival m k d w o t) → v.ops ≡ o ∷ w.ops
  arrival_ops d w o None v i = absurd i
  arrival_ops d w o (Some u) v (inl e) = ap (λ x. x.ops) (sym e)
  arrival_ops d w o (Some u) v (inr i) = absurd i

  sorted_reached : (d : ℕ) (w : Way R) (n : ℕ) → Sorted (way_reached m k d w n)
  sorted_reached d w zero = tt
  sorted_reached d w (suc n) =
      sorted_append (way_reached m k d w n) (way_arrival m k d w n (m.step (k.setting w.at) n)) (sorted_reached d w n) (sorted_arrival d w n (m.step (k.setting w.at) n))
      (λ x y i j. let r = in_reached m k d w n x i in
      rw (sym (ap (λ z. z.ops) r.0.3), arrival_ops d w n (m.step (k.setting w.at) n) y j) (inr (refl, r.1)))

  sorted_arrivals : (d : ℕ) (ws : List (Way R)) → Sorted ws → Sorted (way_arrivals m k d ws)
  sorted_arrivals d [] s = tt
  sorted_arrivals d (w ∷ ws) s =
      sorted_append (way_reached m k d w m.operations) (way_arrivals m k d ws) (sorted_reached d w m.operations) (sorted_arrivals d ws s.1)
      (λ x y i j. let r = in_reached m k d w m.operations x i in let q = in_arrivals m k d ws y j in
      rw (sym (ap (λ z. z.ops) r.0.3), sym (ap (λ z. z.ops) q.2.3)) (inl (s.0 q.0 q.1)))

  module _ (fit : ℕ → Bool) where
    sorted_kept : (met : List ℕ) (ws : List (Way R)) → Sorted ws → Sorted (kept (way_kind m k) fit met ws)
    sorted_kept met [] s = tt
    sorted_kept met (w ∷ ws) s = either (has met (k.setting w.at) || not (fit (k.setting w.at))) (sorted_kept (k.setting w.at ∷ met) ws s.1)
      where
        rest : List (Way R)
        rest = kept (way_kind m k) fit (k.setting w.at ∷ met) ws

        either : (b : Bool) → Sorted rest → Sorted (cond b rest (w ∷ rest))
        either true r = r
        either false r = (λ v i. s.0 v (kept_in (way_kind m k) fit (k.setting w.at ∷ met) ws v i), r)

    -- what is kept came no later than any other arrival at its setting
    pub kept_earliest :
        (met : List ℕ) (ws : List (Way R)) (v w : Way R) → Sorted ws → In v (kept (way_kind m k) fit met ws) → In w ws
        → k.setting v.at ≡ k.setting w.at → Upto v.ops w.ops
    kept_earliest met [] v w s i j e = absurd j
    kept_earliest met (x ∷ ws) v w s i j e =
        either (has met (k.setting x.at) || not (fit (k.setting x.at))) i j
        (λ l n. kept_earliest (k.setting x.at ∷ met) ws v w s.1 l n e)
      where
        rest : List (Way R)
        rest = kept (way_kind m k) fit (k.setting x.at ∷ met) ws

        -- the rest is elsewhere than x
        elsewhere : In v rest → x ≡ w → ⊥
        elsewhere l h =
            both_ways (has (k.setting x.at ∷ met) (k.setting v.at)) (kept_unmet (way_kind m k) fit (k.setting x.at ∷ met) ws v l)
            (has_here (k.setting x.at) (k.setting v.at) met (ap (λ y. k.setting y.at) h ∙ sym e))

        later : In v rest → In w (x ∷ ws) → (In v rest → In w ws → Upto v.ops w.ops) → Upto v.ops w.ops
        later l (inl h) f = absurd (elsewhere l h)
        later l (inr n) f = f l n

        head : x ≡ v → In w (x ∷ ws) → Upto v.ops w.ops
        head h (inl n) = inl (ap (λ y. y.ops) (sym h ∙ n))
        head h (inr n) = inr (subst (λ y. Before y.ops w.ops) h (s.0 w n))

        either : (b : Bool) → In v (cond b rest (x ∷ rest)) → In w (x ∷ ws) → (In v rest → In w ws → Upto v.ops w.ops) → Upto v.ops w.ops
        either true l n f = later l n f
        either false (inl h) n f = head h n
        either false (inr l) n f = later l n f

  pub sorted_ways : (g : Leg) (d : ℕ) → Sorted (ways m k g d)
  sorted_ways g zero = begun (fits m g 0 g.start)
    where
      begun : (b : Bool) → Sorted (cond b (record { at = k.begin g.start; ops = [] } ∷ []) [])
      begun true = (λ v i. absurd i, tt)
      begun false = tt
  sorted_ways g (suc d) = sorted_kept (fits m g (suc d)) (grown m k g d).met (way_arrivals m k (suc d) (ways m k g d)) (sorted_arrivals (suc d) (ways m k g d) (sorted_ways g d))

  -- a way to the next layer came no later than by any step from a way to this one
  pub ways_earliest :
      (g : Leg) (d : ℕ) (v w : Way R) → In v (ways m k g (suc d)) → In w (way_arrivals m k (suc d) (ways m k g d))
      → k.setting v.at ≡ k.setting w.at → Upto v.ops w.ops
  ways_earliest g d v w i j e =
      kept_earliest (fits m g (suc d)) (grown m k g d).met (way_arrivals m k (suc d) (ways m k g d)) v w (sorted_arrivals (suc d) (ways m k g d) (sorted_ways g d)) i j e
