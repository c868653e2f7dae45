-- Layers whose records carry the list that they came by. Assumes nothing.
use Rattle.std.proofs.Common.{◌≡◌, ℕ, zero, suc, ◌<◌, Bool, true, false, cond, List, [], ◌∷◌, ◌++◌, map, Some, None, Option, sym, refl, ap, ◌∙◌, subst, ap₂, inl, inr, ⊎_elim, arith}
use Rattle.std.proofs.lemmas.List.{map-append}
use Rattle.std.proofs.lemmas.Bool.{cases_lt}
use Rattle.plant.specs.Meaning.{Meaning, Steps}
use Rattle.plant.specs.Laws.{Lawful}
use Rattle.legs.specs.Kinds.{Kind}
use Rattle.legs.specs.Layers.{Leg, fits, arrival, reached, arrivals, kept, grown, layer, In}
use Rattle.legs.proofs.Members.{in_left, in_right, in_append_cases}
use Rattle.legs.proofs.Arrivals.{step_below}
use Rattle.legs.proofs.Kept.{map_kept}

-- a record with the operations that led to it, the last one first
pub record Way (R : Type 0) : Type 0 where
  pub at : R
  pub ops : List ℕ

module _ {R : Type 0} (m : Meaning) (k : Kind R) where
  -- a way tells the setting of its record
  abbrev pub way_kind : Kind (Way R)
  way_kind =
      record {
        setting = λ w. k.setting w.at;
        begin = λ s. record { at = k.begin s; ops = [] };
        onward = λ d w u. record { at = k.onward d w.at u; ops = w.ops };
      }

  abbrev pub way_onward : ℕ → Way R → ℕ → ℕ → Way R
  way_onward d w o u = record { at = k.onward d w.at u; ops = o ∷ w.ops }

  abbrev pub way_arrival : ℕ → Way R → ℕ → Option ℕ → List (Way R)
  way_arrival d w o None = []
  way_arrival d w o (Some u) = way_onward d w o u ∷ []

  abbrev pub way_reached : ℕ → Way R → ℕ → List (Way R)
  way_reached d w zero = []
  way_reached d w (suc o) = way_reached d w o ++ way_arrival d w o (m.step (k.setting w.at) o)

  abbrev pub way_arrivals : ℕ → List (Way R) → List (Way R)
  way_arrivals d [] = []
  way_arrivals d (w ∷ ws) = way_reached d w m.operations ++ way_arrivals d ws

  -- the records of the layer at depth d, each with the list that it came by
  abbrev pub ways : Leg → ℕ → List (Way R)
  ways g zero = cond (fits m g 0 g.start) (record { at = k.begin g.start; ops = [] } ∷ []) []
  ways g (suc d) = kept way_kind (fits m g (suc d)) (grown m k g d).met (way_arrivals (suc d) (ways g d))

  -- they are the records of the layer
  arrival_at : (d : ℕ) (w : Way R) (o : ℕ) (t : Option ℕ) → map (λ v. v.at) (way_arrival d w o t) ≡ arrival k d w.at t
  arrival_at d w o None = refl
  arrival_at d w o (Some u) = refl

  reached_at : (d : ℕ) (w : Way R) (n : ℕ) → map (λ v. v.at) (way_reached d w n) ≡ reached m k d w.at n
  reached_at d w zero = refl
  reached_at d w (suc o) =
      map-append (λ v. v.at) (way_reached d w o) (way_arrival d w o (m.step (k.setting w.at) o))
      ∙ ap₂ (λ x y. x ++ y) (reached_at d w o) (arrival_at d w o (m.step (k.setting w.at) o))

  arrivals_at : (d : ℕ) (ws : List (Way R)) → map (λ v. v.at) (way_arrivals d ws) ≡ arrivals m k d (map (λ v. v.at) ws)
  arrivals_at d [] = refl
  arrivals_at d (w ∷ ws) =
      map-append (λ v. v.at) (way_reached d w m.operations) (way_arrivals d ws)
      ∙ ap₂ (λ x y. x ++ y) (reached_at d w m.operations) (arrivals_at d ws)

  first_at : (b : Bool) (s : ℕ) → map (λ (w : Way R). w.at) (cond b (record { at = k.begin s; ops = [] } ∷ []) []) ≡ cond b (k.begin s ∷ []) []
  first_at true s = refl
  first_at false s = refl

  pub ways_at : (g : Leg) (d : ℕ) → map (λ v. v.at) (ways g d) ≡ layer m k g d
  ways_at g zero = first_at (fits m g 0 g.start) g.start
  ways_at g (suc d) =
      map_kept way_kind k (λ v. v.at) (λ w. refl) (fits m g (suc d)) (grown m k g d).met (way_arrivals (suc d) (ways g d))
      ∙ ap (kept k (fits m g (suc d)) (grown m k g d).met) (arrivals_at (suc d) (ways g d) ∙ ap (arrivals m k (suc d)) (ways_at g d))

  -- each arrival is one step on from a way, and each such step arrives
  abbrev pub OneOn : ℕ → Way R → Way R → Type 0
  OneOn d w v = (o : ℕ) × (u : ℕ) × Steps m (k.setting w.at) o u × (way_onward d w o u ≡ v)

  pub in_reached : (d : ℕ) (w : Way R) (n : ℕ) (v : Way R) → In v (way_reached d w n) → (o : OneOn d w v) × (o.0 < n)
  in_reached d w zero v i = absurd i
  in_reached d w (suc n) v i =
      ⊎_elim (λ l. let r = in_reached d w n v l in (r.0, omega (arith, r.1))) (λ l. last (m.step (k.setting w.at) n) refl l)
      (in_append_cases v (way_reached d w n) (way_arrival d w n (m.step (k.setting w.at) n)) i)
    where
      last : (t : Option ℕ) → m.step (k.setting w.at) n ≡ t → In v (way_arrival d w n t) → (o : OneOn d w v) × (o.0 < suc n)
      last None e l = absurd l
      last (Some u) e (inl h) = ((n, u, e, h), omega arith)
      last (Some u) e (inr h) = absurd h

  reached_in : (d : ℕ) (w : Way R) (n o u : ℕ) → o < n → Steps m (k.setting w.at) o u → In (way_onward d w o u) (way_reached d w n)
  reached_in d w zero o u l s = absurd (omega arith)
  reached_in d w (suc n) o u l s =
      ⊎_elim
      (λ b. in_left (way_onward d w o u) (way_reached d w n) _ (reached_in d w n o u b s))
      (λ b. let e : o ≡ n = omega arith in
      let arrives = subst (λ t. In (way_onward d w o u) (way_arrival d w n t)) (sym s ∙ ap (m.step (k.setting w.at)) e) (inl (ap (λ p. way_onward d w p u) (sym e))) in
      in_right (way_onward d w o u) (way_reached d w n) _ arrives)
      (cases_lt o n)

  pub in_arrivals : (d : ℕ) (ws : List (Way R)) (v : Way R) → In v (way_arrivals d ws) → (w : Way R) × In w ws × OneOn d w v
  in_arrivals d [] v i = absurd i
  in_arrivals d (w ∷ ws) v i =
      ⊎_elim (λ l. (w, inl refl, (in_reached d w m.operations v l).0)) (λ l. let r = in_arrivals d ws v l in (r.0, inr r.1, r.2))
      (in_append_cases v (way_reached d w m.operations) (way_arrivals d ws) i)

  pub arrivals_in :
      Lawful m → (d : ℕ) (ws : List (Way R)) (w : Way R) (o u : ℕ) → In w ws → Steps m (k.setting w.at) o u → In (way_onward d w o u) (way_arrivals d ws)
  arrivals_in lawful d [] w o u i s = absurd i
  arrivals_in lawful d (x ∷ ws) w o u (inl e) s =
      in_left (way_onward d w o u) (way_reached d x m.operations) (way_arrivals d ws)
      (subst (λ y. In (way_onward d w o u) (way_reached d y m.operations)) (sym e) (reached_in d w m.operations o u (step_below m lawful (k.setting w.at) o u s) s))
  arrivals_in lawful d (x ∷ ws) w o u (inr i) s =
      in_right (way_onward d w o u) (way_reached d x m.operations) (way_arrivals d ws) (arrivals_in lawful d ws w o u i s)
