-- The first_hit search finds the earliest list of a length, exactly where there is one. Over any lawful meaning.
use Rattle.std.proofs.Common.{◌≡◌, ℕ, zero, suc, ◌<◌, Bool, true, false, cond, eqb, ◌⊎◌, ◌↔◌, List, [], ◌∷◌, length, Some, None, Option, sym, refl, ap, ◌∙◌, subst, inl, inr, ⊎_elim, arith}
use Rattle.std.proofs.lemmas.List.{nil_from_length}
use Rattle.std.proofs.lemmas.Bool.{cases_lt, cases_order, eqb-true, eqb-false}
use Rattle.plant.specs.Meaning.{Meaning, Steps, Leads}
use Rattle.plant.specs.Laws.{Lawful}
use Rattle.legs.specs.Lists.{Earlier, Earliest, Linked, or_else, first_hit, begun_by, from_there, earliest}
use Rattle.legs.proofs.Arrivals.{step_below}
use Rattle.legs.proofs.Lists.{steps_once}
use Rattle.legs.proofs.Earlier.{earlier_one_way}

pub some_none : {A : Type 0} (x : Option A) (a : A) → x ≡ Some a → x ≡ None → ⊥
some_none x a s n = grind arith

module _ {A : Type 0} (f : ℕ → Option A) where
  hit_none : (n : ℕ) → first_hit f n ≡ None → (o : ℕ) → o < n → f o ≡ None
  hit_none zero e o l = absurd (omega arith)
  hit_none (suc n) e o l = split (first_hit f n) refl e (λ h b. hit_none n h o b)
    where
      split : (x : Option A) → first_hit f n ≡ x → or_else x (f n) ≡ None → (first_hit f n ≡ None → o < n → f o ≡ None) → f o ≡ None
      split (Some a) x s below = absurd (some_none (Some a) a refl s)
      split None x s below = ⊎_elim (λ b. below x b) (λ b. let h : o ≡ n = omega arith in ap f h ∙ s) (cases_lt o n)

  -- a hit is the first one
  abbrev First : ℕ → A → Type 0
  First n a = (o : ℕ) × (o < n) × (f o ≡ Some a) × ((p : ℕ) → p < o → f p ≡ None)

  hit_first : (n : ℕ) (a : A) → first_hit f n ≡ Some a → First n a
  hit_first zero a e = absurd (some_none (Some a) a refl (sym e))
  hit_first (suc n) a e = split (first_hit f n) refl e (λ h. hit_first n a h)
    where
      split : (x : Option A) → first_hit f n ≡ x → or_else x (f n) ≡ Some a → (first_hit f n ≡ Some a → First n a) → First (suc n) a
      split (Some b) x s below = let r = below (x ∙ s) in (r.0, omega (arith, r.1), r.2, r.3)
      split None x s below = (n, omega arith, s, hit_none n x)

-- what a list begun by o comes from
begun_some :
    (rest : ℕ → Option (List ℕ)) (o : ℕ) (t : Option ℕ) (os : List ℕ) → begun_by o (from_there rest t) ≡ Some os
    → (u : ℕ) × (qs : List ℕ) × (t ≡ Some u) × (rest u ≡ Some qs) × (o ∷ qs ≡ os)
begun_some rest o None os e = absurd (some_none (Some os) os refl (sym e))
begun_some rest o (Some u) os e = split (rest u) refl e
  where
    split : (x : Option (List ℕ)) → rest u ≡ x → begun_by o x ≡ Some os → (v : ℕ) × (qs : List ℕ) × (Some u ≡ Some v) × (rest v ≡ Some qs) × (o ∷ qs ≡ os)
    split None x s = absurd (some_none (Some os) os refl (sym s))
    split (Some qs) x s = (u, qs, refl, x, cc)

begun_none : (rest : ℕ → Option (List ℕ)) (o u : ℕ) (t : Option ℕ) → t ≡ Some u → begun_by o (from_there rest t) ≡ None → rest u ≡ None
begun_none rest o u t s e = split (rest u) refl (ap (λ x. begun_by o (from_there rest x)) (sym s) ∙ e)
  where
    split : (x : Option (List ℕ)) → rest u ≡ x → begun_by o x ≡ None → rest u ≡ None
    split None x n = x
    split (Some qs) x n = absurd (some_none (Some (o ∷ qs)) (o ∷ qs) refl n)

-- what is found of a list begun by o
abbrev led_by : Meaning → ℕ → ℕ → ℕ → ℕ → Option (List ℕ)
led_by m n s t o = begun_by o (from_there (λ u. earliest m n u t) (m.step s o))

module _ (m : Meaning) (lawful : Lawful m) where
  none_leads : (n s t : ℕ) (ps : List ℕ) → earliest m n s t ≡ None → length ps ≡ n → Leads m s ps t → ⊥
  none_leads zero s t [] e l h = split (eqb s t) refl e
    where
      split : (b : Bool) → eqb s t ≡ b → cond {A = Option (List ℕ)} b (Some []) None ≡ None → ⊥
      split true x n = some_none (Some []) [] refl n
      split false x n = eqb-false s t x h
  none_leads zero s t (p ∷ ps) e l h = omega arith
  none_leads (suc n) s t [] e l h = omega arith
  none_leads (suc n) s t (p ∷ ps) e l h =
      let missed = hit_none (led_by m n s t) m.operations e p (step_below m lawful s p h.0 h.1) in
      none_leads n h.0 t ps (begun_none (λ u. earliest m n u t) p h.0 (m.step s p) h.1 missed) (omega arith) h.2

  pub found_earliest : (n s t : ℕ) (os : List ℕ) → earliest m n s t ≡ Some os → Earliest m n s t os
  found_earliest zero s t os e = split (eqb s t) refl e
    where
      split : (b : Bool) → eqb s t ≡ b → cond {A = Option (List ℕ)} b (Some []) None ≡ Some os → Earliest m zero s t os
      split true x h =
          let at : [] ≡ os = cc in
          subst (Earliest m zero s t) at (record { leads = eqb-true s t x; long = refl; before_all = λ ps l n. inl (sym (nil_from_length ps l)) })
      split false x h = absurd (some_none (Some os) os refl (sym h))
  found_earliest (suc n) s t os e =
      let r = hit_first (led_by m n s t) m.operations os e in
      let q = begun_some (λ u. earliest m n u t) r.0 (m.step s r.0) os r.2 in
      from r.0 q.0 q.1 q.2 q.4 r.3 (found_earliest n q.0 t q.1 q.3)
    where
      from :
          (o u : ℕ) (qs : List ℕ) → Steps m s o u → o ∷ qs ≡ os → ((p : ℕ) → p < o → led_by m n s t p ≡ None)
          → Earliest m n u t qs → Earliest m (suc n) s t os
      from o u qs h at low rest =
          subst (Earliest m (suc n) s t) at (record { leads = (u, h, rest.leads); long = ap suc rest.long; before_all = before })
        where
          before : (ps : List ℕ) → length ps ≡ suc n → Leads m s ps t → (o ∷ qs ≡ ps) ⊎ Earlier (o ∷ qs) ps
          before [] l b = absurd (omega arith)
          before (p ∷ ps) l b =
              ⊎_elim
              (λ same.
              let there : Leads m u ps t = subst (λ v. Leads m v ps t) (steps_once m s o b.0 u (subst (λ x. Steps m s x b.0) (sym same) b.1) h) b.2 in
              ⊎_elim (λ x. inl (ap (λ y. y ∷ qs) same ∙ ap (λ y. p ∷ y) x)) (λ x. inr (inr (same, x))) (rest.before_all ps (omega arith) there))
              (⊎_elim (λ lower. inr (inl lower))
              (λ higher. absurd (none_leads n b.0 t ps (begun_none (λ v. earliest m n v t) p b.0 (m.step s p) b.1 (low p higher)) (omega arith) b.2)))
              (cases_order o p)

  pub earliest_unique : (n s t : ℕ) (os ps : List ℕ) → Earliest m n s t os → Earliest m n s t ps → os ≡ ps
  earliest_unique n s t os ps a b =
      ⊎_elim (λ e. e) (λ x. ⊎_elim (λ e. sym e) (λ y. absurd (earlier_one_way os ps x y)) (b.before_all os a.long a.leads)) (a.before_all ps b.long b.leads)

  pub earliest_found : (n s t : ℕ) (os : List ℕ) → Earliest m n s t os → earliest m n s t ≡ Some os
  earliest_found n s t os a = split (earliest m n s t) refl
    where
      split : (x : Option (List ℕ)) → earliest m n s t ≡ x → x ≡ Some os
      split None e = absurd (none_leads n s t os e a.long a.leads)
      split (Some ps) e = ap (λ l. Some l) (earliest_unique n s t ps os (found_earliest n s t ps e) a)

  pub earliest_none : (n s t : ℕ) → (earliest m n s t ≡ None) ↔ (Linked m n s t → ⊥)
  earliest_none n s t = (λ e l. none_leads n s t l.0 e l.1 l.2, λ never. split (earliest m n s t) refl never)
    where
      split : (x : Option (List ℕ)) → earliest m n s t ≡ x → (Linked m n s t → ⊥) → x ≡ None
      split None e never = refl
      split (Some os) e never = let a = found_earliest n s t os e in absurd (never (os, a.long, a.leads))

  -- where a list of that length leads there, the earliest is found
  pub linked_found : (n s t : ℕ) → Linked m n s t → (os : List ℕ) × (earliest m n s t ≡ Some os) × Earliest m n s t os
  linked_found n s t l = split (earliest m n s t) refl
    where
      split : (x : Option (List ℕ)) → earliest m n s t ≡ x → (os : List ℕ) × (earliest m n s t ≡ Some os) × Earliest m n s t os
      split None e = absurd (none_leads n s t l.0 e l.1 l.2)
      split (Some os) e = (os, e, found_earliest n s t os e)
