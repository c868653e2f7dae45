-- How arrivals grow, which settings they reach, and what a map between kinds makes of them. Assumes nothing.
use Rattle.std.proofs.Common.{◌≡◌, ℕ, zero, suc, ◌<◌, true, List, [], ◌∷◌, ◌++◌, Some, None, Option, sym, refl, ap, ◌∙◌, ⊎_elim, arith}
use Rattle.std.proofs.lemmas.List.{append-nil, append_assoc}
use Rattle.std.proofs.lemmas.Bool.{or_cases, or_left, or_right, cases_lt, false≢true}
use Rattle.plant.specs.Meaning.{Meaning, Steps}
use Rattle.plant.specs.Laws.{Lawful}
use Rattle.legs.specs.Kinds.{Kind, plain}
use Rattle.legs.specs.Layers.{has, arrival, reached, arrivals}
use Rattle.legs.proofs.Members.{has_here, has_later, has_cases, has_append}

module _ {R : Type 0} (m : Meaning) (k : Kind R) (d : ℕ) where
  pub arrivals_append : (qs rs : List R) → arrivals m k d (qs ++ rs) ≡ arrivals m k d qs ++ arrivals m k d rs
  arrivals_append [] rs = refl
  arrivals_append (q ∷ qs) rs =
      ap (λ l. reached m k d q m.operations ++ l) (arrivals_append qs rs)
      ∙ sym (append_assoc (reached m k d q m.operations) (arrivals m k d qs) (arrivals m k d rs))

  -- one record more
  pub arrivals_push : (rs : List R) (r : R) → arrivals m k d (rs ++ r ∷ []) ≡ arrivals m k d rs ++ reached m k d r m.operations
  arrivals_push rs r = arrivals_append rs (r ∷ []) ∙ ap (λ l. arrivals m k d rs ++ l) (append-nil (reached m k d r m.operations))

-- the settings reached from v by the operations below n
module _ (m : Meaning) (d v : ℕ) where
  pub arrival_step : (u : ℕ) (t : Option ℕ) → has (arrival plain d v t) u ≡ true → t ≡ Some u
  arrival_step u None h = absurd (false≢true h)
  arrival_step u (Some w) h = ⊎_elim (λ e. ap (λ x. Some x) e) (λ l. absurd (false≢true l)) (has_cases w u [] h)

  pub reached_step : (n u : ℕ) → has (reached m plain d v n) u ≡ true → (o : ℕ) × Steps m v o u
  reached_step zero u h = absurd (false≢true h)
  reached_step (suc o) u h =
      ⊎_elim (λ l. reached_step o u l) (λ l. (o, arrival_step u (m.step v o) l))
      (or_cases _ _ (sym (has_append (reached m plain d v o) (arrival plain d v (m.step v o)) u) ∙ h))

  pub step_reached : (n u o : ℕ) → o < n → Steps m v o u → has (reached m plain d v n) u ≡ true
  step_reached zero u o l s = absurd (omega arith)
  step_reached (suc n) u o l s =
      has_append (reached m plain d v n) (arrival plain d v (m.step v n)) u
      ∙ ⊎_elim
      (λ b. or_left _ _ (step_reached n u o b s))
      (λ b. let e : n ≡ o = omega arith in
      or_right (has (reached m plain d v n) u) _ (ap (λ t. has (arrival plain d v t) u) (ap (λ x. m.step v x) e ∙ s) ∙ has_here u u [] refl))
      (cases_lt o n)

-- what steps is below the number of operations
module _ (m : Meaning) where
  pub step_below : Lawful m → (v o u : ℕ) → Steps m v o u → o < m.operations
  step_below lawful v o u s =
      ⊎_elim (λ l. l) (λ p. let none = lawful.operation_past v o p in grind arith) (cases_lt o m.operations)

-- the settings one step from those of a list
module _ (m : Meaning) (d : ℕ) where
  pub arrivals_step : (vs : List ℕ) (u : ℕ) → has (arrivals m plain d vs) u ≡ true → (v : ℕ) × (o : ℕ) × (has vs v ≡ true) × Steps m v o u
  arrivals_step [] u h = absurd (false≢true h)
  arrivals_step (v ∷ vs) u h =
      ⊎_elim
      (λ l. let r = reached_step m d v m.operations u l in (v, r.0, has_here v v vs refl, r.1))
      (λ l. let r = arrivals_step vs u l in (r.0, r.1, has_later v r.0 vs r.2, r.3))
      (or_cases _ _ (sym (has_append (reached m plain d v m.operations) (arrivals m plain d vs) u) ∙ h))

  pub step_arrivals : Lawful m → (vs : List ℕ) (v o u : ℕ) → has vs v ≡ true → Steps m v o u → has (arrivals m plain d vs) u ≡ true
  step_arrivals lawful [] v o u h s = absurd (false≢true h)
  step_arrivals lawful (w ∷ vs) v o u h s =
      has_append (reached m plain d w m.operations) (arrivals m plain d vs) u
      ∙ ⊎_elim
      (λ e. or_left _ _ (step_reached m d w m.operations u o (step_below m lawful v o u s) (ap (λ x. m.step x o) e ∙ s)))
      (λ l. or_right (has (reached m plain d w m.operations) u) _ (step_arrivals lawful vs v o u l s))
      (has_cases w v vs h)
