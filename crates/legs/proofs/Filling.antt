-- How the next layer is filled: the turns of a loop over a layer, and that what is filled is a front part of the layer. Over any lawful meaning.
use Rattle.std.proofs.Common.{◌≡◌, ℕ, zero, suc, ◌≤◌, cond, not, ◌||◌, List, [], ◌∷◌, ◌++◌, map, length, None, sym, ap, ◌∙◌, ⊎_elim, arith}
use mathlib.Core.Bool.{or_assoc}
use Rattle.std.proofs.lemmas.List.{append-nil, append_assoc, length-append}
use Rattle.std.proofs.lemmas.Bool.{cases_lt}
use Rattle.plant.specs.Meaning.{Meaning, Steps}
use Rattle.plant.specs.Laws.{Lawful}
use Rattle.legs.specs.Kinds.{Kind, Tells}
use Rattle.legs.specs.Layers.{Leg, has, In, fits, arrival, reached, arrivals, grown, layer, layer_before}
use Rattle.legs.specs.Filling.{kept_next, filled, filled_more}
use Rattle.legs.proofs.Arrivals.{arrivals_append, arrivals_push}
use Rattle.legs.proofs.Kept.{refused, kept_push, kept_front}
use Rattle.legs.proofs.Duplicates.{three_layers_joined}

module _ {R : Type 0} (m : Meaning) (k : Kind R) (g : Leg) (d : ℕ) where
  -- before the first operation from r, and after the last
  pub filled_starts : (rs : List R) (r : R) → filled_more m k g d rs r zero ≡ filled m k g d rs
  filled_starts rs r = ap (kept_next m k g d) (append-nil (arrivals m k (suc d) rs))

  pub filled_ends : (rs : List R) (r : R) → filled_more m k g d rs r m.operations ≡ filled m k g d (rs ++ r ∷ [])
  filled_ends rs r = ap (kept_next m k g d) (sym (arrivals_push m k (suc d) rs r))

  -- one operation more, by what it steps to
  one_more :
      (rs : List R) (r : R) (o : ℕ)
      → filled_more m k g d rs r (suc o) ≡ kept_next m k g d ((arrivals m k (suc d) rs ++ reached m k (suc d) r o) ++ arrival k (suc d) r (m.step (k.setting r) o))
  one_more rs r o = ap (kept_next m k g d) (sym (append_assoc (arrivals m k (suc d) rs) (reached m k (suc d) r o) (arrival k (suc d) r (m.step (k.setting r) o))))

  -- without a step nothing arrives
  pub filled_passes : (rs : List R) (r : R) (o : ℕ) → m.step (k.setting r) o ≡ None → filled_more m k g d rs r (suc o) ≡ filled_more m k g d rs r o
  filled_passes rs r o e =
      one_more rs r o
      ∙ ap (λ t. kept_next m k g d ((arrivals m k (suc d) rs ++ reached m k (suc d) r o) ++ arrival k (suc d) r t)) e
      ∙ ap (kept_next m k g d) (append-nil (arrivals m k (suc d) rs ++ reached m k (suc d) r o))

  module _ (t : Tells k) (lawful : Lawful m) where
    -- a step arrives, unless the three layers have it or it does not fit
    pub filled_steps :
        (rs : List R) (r : R) (o u : ℕ) → In r (layer m k g d) → Steps m (k.setting r) o u
        → filled_more m k g d rs r (suc o)
        ≡ filled_more m k g d rs r o
        ++ cond (has (map k.setting (layer_before m k g d ++ (layer m k g d ++ filled_more m k g d rs r o))) u || not (fits m g (suc d) u)) [] (k.onward (suc d) r u ∷ [])
    filled_steps rs r o u i s =
        let before = arrivals m k (suc d) rs ++ reached m k (suc d) r o in
        let nexts = filled_more m k g d rs r o in
        let new = k.onward (suc d) r u in
        one_more rs r o
        ∙ ap (λ x. kept_next m k g d (before ++ arrival k (suc d) r x)) s
        ∙ kept_push k (fits m g (suc d)) (grown m k g d).met before new
        ∙ ap (λ b. nexts ++ cond b [] (new ∷ []))
        (ap (refused k (fits m g (suc d)) (grown m k g d).met nexts) (t.arrives (suc d) r u)
        ∙ sym (or_assoc (has (grown m k g d).met u) (has (map k.setting nexts) u) (not (fits m g (suc d) u)))
        ∙ ap (λ b. b || not (fits m g (suc d) u)) (sym (three_layers_joined m g lawful k t d r o u nexts i s)))

  -- what is filled is a front part of the next layer
  reached_front : (r : R) (o n : ℕ) → o ≤ n → (qs : List R) × (reached m k (suc d) r o ++ qs ≡ reached m k (suc d) r n)
  reached_front r o zero l = let e : o ≡ zero = omega arith in ([], append-nil (reached m k (suc d) r o) ∙ ap (reached m k (suc d) r) e)
  reached_front r o (suc n) l =
      ⊎_elim
      (λ b.
      let q = reached_front r o n (omega arith) in (
        q.0 ++ arrival k (suc d) r (m.step (k.setting r) n),
        sym (append_assoc (reached m k (suc d) r o) q.0 (arrival k (suc d) r (m.step (k.setting r) n))) ∙ ap (λ x. x ++ arrival k (suc d) r (m.step (k.setting r) n)) q.1,
      ))
      (λ b. let e : o ≡ suc n = omega arith in ([], append-nil (reached m k (suc d) r o) ∙ ap (reached m k (suc d) r) e))
      (cases_lt o (suc n))

  pub filled_front :
      (rs : List R) (r : R) (rest : List R) (o : ℕ) → rs ++ (r ∷ rest) ≡ layer m k g d → o ≤ m.operations
      → (qs : List R) × (filled_more m k g d rs r o ++ qs ≡ layer m k g (suc d))
  filled_front rs r rest o e l =
      let q = reached_front r o m.operations l in
      let before = arrivals m k (suc d) rs ++ reached m k (suc d) r o in
      let behind = q.0 ++ arrivals m k (suc d) rest in
      let all : before ++ behind ≡ arrivals m k (suc d) (layer m k g d) =
      append_assoc (arrivals m k (suc d) rs) (reached m k (suc d) r o) behind
      ∙ ap (λ x. arrivals m k (suc d) rs ++ x) (sym (append_assoc (reached m k (suc d) r o) q.0 (arrivals m k (suc d) rest)) ∙ ap (λ x. x ++ arrivals m k (suc d) rest) q.1)
      ∙ sym (arrivals_append m k (suc d) rs (r ∷ rest)) ∙ ap (arrivals m k (suc d)) e in
      let f = kept_front k (fits m g (suc d)) (grown m k g d).met before behind in
      (f.0, f.1 ∙ ap (kept_next m k g d) all)

  pub filled_length :
      (rs : List R) (r : R) (rest : List R) (o : ℕ) → rs ++ (r ∷ rest) ≡ layer m k g d → o ≤ m.operations
      → length (filled_more m k g d rs r o) ≤ length (layer m k g (suc d))
  filled_length rs r rest o e l =
      let q = filled_front rs r rest o e l in
      omega (arith, length-append (filled_more m k g d rs r o) q.0, ap length q.1)
