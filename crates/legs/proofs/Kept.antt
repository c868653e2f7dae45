-- Which arrivals are kept, how the kept grow by one, and that a map between kinds keeps the same ones. Assumes nothing.
use Rattle.std.proofs.Common.{◌≡◌, ℕ, Bool, true, false, cond, not, ◌&&◌, ◌||◌, eqb, List, [], ◌∷◌, ◌++◌, map, sym, refl, ap, ◌∙◌, subst, inl, inr, ⊎_elim}
use mathlib.Core.Bool.{and-false}
use Rattle.std.proofs.lemmas.Bool.{cases_eq, eq-eqb, ne_eqb, not-true, and_parts, and_from, not_from_false, or_left, or_right, or_parts}
use Rattle.legs.specs.Kinds.{Kind, plain}
use Rattle.legs.specs.Layers.{has, kept, In}

-- a setting is kept where it arrives, is not met and fits
kept_at_head :
    (met-already fit : Bool) (v : ℕ) (rest : List ℕ) → has rest v ≡ false
    → has (cond (met-already || not fit) rest (v ∷ rest)) v ≡ (not met-already && fit)
kept_at_head true fit v rest h = h
kept_at_head false true v rest h = ap (λ b. b || has rest v) (eq-eqb v v refl)
kept_at_head false false v rest h = h

kept_past_head : (b : Bool) (v u : ℕ) (rest : List ℕ) → eqb v u ≡ false → has (cond b rest (v ∷ rest)) u ≡ has rest u
kept_past_head true v u rest e = refl
kept_past_head false v u rest e = ap (λ x. x || has rest u) e

pub has_kept : (fit : ℕ → Bool) (met us : List ℕ) (u : ℕ) → has (kept plain fit met us) u ≡ (has us u && (not (has met u) && fit u))
has_kept fit met [] u = refl
has_kept fit met (v ∷ us) u =
    ⊎_elim (λ e. here (λ w. has_kept fit (v ∷ met) us w) e) (λ n. there (λ w. has_kept fit (v ∷ met) us w) (ne_eqb v u n)) (cases_eq v u)
  where
    rest : List ℕ
    rest = kept plain fit (v ∷ met) us

    Later : Type 0
    Later = (w : ℕ) → has rest w ≡ (has us w && (not (eqb v w || has met w) && fit w))

    itself : Later → has rest v ≡ false
    itself later = later v ∙ ap (λ b. has us v && (not (b || has met v) && fit v)) (eq-eqb v v refl) ∙ and-false (has us v)

    Goal : ℕ → Type 0
    Goal w = has (cond (has met v || not (fit v)) rest (v ∷ rest)) w ≡ ((eqb v w || has us w) && (not (has met w) && fit w))

    here : Later → v ≡ u → Goal u
    here later e =
        subst Goal e
        (kept_at_head (has met v) (fit v) v rest (itself later)
        ∙ ap (λ b. (b || has us v) && (not (has met v) && fit v)) (sym (eq-eqb v v refl)))

    there : Later → eqb v u ≡ false → Goal u
    there later e =
        kept_past_head (has met v || not (fit v)) v u rest e
        ∙ later u
        ∙ ap (λ b. has us u && (not (b || has met u) && fit u)) e
        ∙ ap (λ b. (b || has us u) && (not (has met u) && fit u)) (sym e)

pub kept_parts : (fit : ℕ → Bool) (met us : List ℕ) (u : ℕ) → has (kept plain fit met us) u ≡ true → (has us u ≡ true) × (has met u ≡ false) × (fit u ≡ true)
kept_parts fit met us u h =
    let p = and_parts (has us u) (not (has met u) && fit u) (sym (has_kept fit met us u) ∙ h) in
    let q = and_parts (not (has met u)) (fit u) p.1 in
    (p.0, not-true (has met u) q.0, q.1)

pub kept_from : (fit : ℕ → Bool) (met us : List ℕ) (u : ℕ) → has us u ≡ true → has met u ≡ false → fit u ≡ true → has (kept plain fit met us) u ≡ true
kept_from fit met us u a n f =
    has_kept fit met us u
    ∙ and_from (has us u) (not (has met u) && fit u) a (and_from (not (has met u)) (fit u) (not_from_false (has met u) n) f)

-- what f makes of the records of k, told by the same settings, is kept the same way
module _ {R Q : Type 0} (k : Kind R) (q : Kind Q) (f : R → Q) (same : (r : R) → q.setting (f r) ≡ k.setting r) where
  map_cond : (b : Bool) (xs ys : List R) → map f (cond b xs ys) ≡ cond b (map f xs) (map f ys)
  map_cond true xs ys = refl
  map_cond false xs ys = refl

  pub map_kept : (fit : ℕ → Bool) (met : List ℕ) (rs : List R) → map f (kept k fit met rs) ≡ kept q fit met (map f rs)
  map_kept fit met [] = refl
  map_kept fit met (r ∷ rs) =
      map_cond (has met (k.setting r) || not (fit (k.setting r))) (kept k fit (k.setting r ∷ met) rs) (r ∷ kept k fit (k.setting r ∷ met) rs)
      ∙ ap (λ l. cond (has met (k.setting r) || not (fit (k.setting r))) l (f r ∷ l)) (map_kept fit (k.setting r ∷ met) rs)
      ∙ ap (λ s. cond (has met s || not (fit s)) (kept q fit (s ∷ met) (map f rs)) (f r ∷ kept q fit (s ∷ met) (map f rs))) (sym (same r))

module _ {R : Type 0} (k : Kind R) (fit : ℕ → Bool) where
  -- whether an arrival at s is not kept, after those that are
  abbrev pub refused : List ℕ → List R → ℕ → Bool
  refused met rs s = has met s || (has (map k.setting rs) s || not (fit s))

  push_under : (b : Bool) (p : R) (rest more new : List R) → more ≡ rest ++ new → cond b more (p ∷ more) ≡ cond b rest (p ∷ rest) ++ new
  push_under true p rest more new e = e
  push_under false p rest more new e = ap (λ l. p ∷ l) e

  refused_itself :
      (a n : Bool) (p : R) (rest : List R) (s : ℕ) → eqb (k.setting p) s ≡ true
      → (a || (has (map k.setting (cond (a || n) rest (p ∷ rest))) s || n)) ≡ true
  refused_itself true n p rest s e = refl
  refused_itself false true p rest s e = or_right (has (map k.setting rest) s) true refl
  refused_itself false false p rest s e = or_left _ false (or_left _ (has (map k.setting rest) s) e)

  told_past :
      (b : Bool) (p : R) (rest : List R) (s : ℕ) → eqb (k.setting p) s ≡ false
      → has (map k.setting rest) s ≡ has (map k.setting (cond b rest (p ∷ rest))) s
  told_past true p rest s e = refl
  told_past false p rest s e = ap (λ b. b || has (map k.setting rest) s) (sym e)

  -- marking p as met refuses the same as keeping it where it is to be kept
  refused_under :
      (met : List ℕ) (rest : List R) (p : R) (s : ℕ)
      → refused (k.setting p ∷ met) rest s ≡ refused met (cond (has met (k.setting p) || not (fit (k.setting p))) rest (p ∷ rest)) s
  refused_under met rest p s = ⊎_elim (λ e. subst Same e itself) (λ n. past (ne_eqb (k.setting p) s n)) (cases_eq (k.setting p) s)
    where
      here : Bool
      here = has met (k.setting p) || not (fit (k.setting p))

      Same : ℕ → Type 0
      Same w = refused (k.setting p ∷ met) rest w ≡ refused met (cond here rest (p ∷ rest)) w

      itself : Same (k.setting p)
      itself =
          let e = eq-eqb (k.setting p) (k.setting p) refl in
          ap (λ b. (b || has met (k.setting p)) || (has (map k.setting rest) (k.setting p) || not (fit (k.setting p)))) e
          ∙ sym (refused_itself (has met (k.setting p)) (not (fit (k.setting p))) p rest (k.setting p) e)

      past : eqb (k.setting p) s ≡ false → Same s
      past e =
          ap (λ b. (b || has met s) || (has (map k.setting rest) s || not (fit s))) e
          ∙ ap (λ b. has met s || (b || not (fit s))) (told_past here p rest s e)

  -- one arrival more: it is enough to look among the met and the kept
  pub kept_push :
      (met : List ℕ) (rs : List R) (r : R)
      → kept k fit met (rs ++ r ∷ []) ≡ kept k fit met rs ++ cond (refused met (kept k fit met rs) (k.setting r)) [] (r ∷ [])
  kept_push met [] r = refl
  kept_push met (p ∷ rs) r =
      push_under (has met (k.setting p) || not (fit (k.setting p))) p (kept k fit (k.setting p ∷ met) rs) _ _ (kept_push (k.setting p ∷ met) rs r)
      ∙ ap (λ b. kept k fit met (p ∷ rs) ++ cond b [] (r ∷ [])) (refused_under met (kept k fit (k.setting p ∷ met) rs) p (k.setting r))

-- what is kept of more arrivals begins with what is kept of the first ones
module _ {R : Type 0} (k : Kind R) (fit : ℕ → Bool) where
  pub kept_front : (met : List ℕ) (rs qs : List R) → (more : List R) × (kept k fit met rs ++ more ≡ kept k fit met (rs ++ qs))
  kept_front met [] qs = (kept k fit met qs, refl)
  kept_front met (p ∷ rs) qs =
      let r = kept_front (k.setting p ∷ met) rs qs in
      let here = has met (k.setting p) || not (fit (k.setting p)) in
      (r.0, sym (push_under k fit here p (kept k fit (k.setting p ∷ met) rs) (kept k fit (k.setting p ∷ met) (rs ++ qs)) r.0 (sym r.1)))

-- what is kept was there, and was not met
module _ {R : Type 0} (k : Kind R) (fit : ℕ → Bool) where
  pub kept_in : (met : List ℕ) (rs : List R) (r : R) → In r (kept k fit met rs) → In r rs
  kept_in met [] r i = i
  kept_in met (p ∷ rs) r i = either (has met (k.setting p) || not (fit (k.setting p))) (λ l. kept_in (k.setting p ∷ met) rs r l) i
    where
      either :
          (b : Bool) → (In r (kept k fit (k.setting p ∷ met) rs) → In r rs)
          → In r (cond b (kept k fit (k.setting p ∷ met) rs) (p ∷ kept k fit (k.setting p ∷ met) rs)) → In r (p ∷ rs)
      either true f l = inr (f l)
      either false f (inl e) = inl e
      either false f (inr l) = inr (f l)

  pub kept_unmet : (met : List ℕ) (rs : List R) (r : R) → In r (kept k fit met rs) → has met (k.setting r) ≡ false
  kept_unmet met [] r i = absurd i
  kept_unmet met (p ∷ rs) r i = either (has met (k.setting p)) refl (fit (k.setting p)) (λ l. (or_parts _ _ (kept_unmet (k.setting p ∷ met) rs r l)).1) i
    where
      either :
          (b : Bool) → has met (k.setting p) ≡ b → (f : Bool) → (In r (kept k fit (k.setting p ∷ met) rs) → has met (k.setting r) ≡ false)
          → In r (cond (b || not f) (kept k fit (k.setting p ∷ met) rs) (p ∷ kept k fit (k.setting p ∷ met) rs)) → has met (k.setting r) ≡ false
      either true e f n l = n l
      either false e true n (inl l) = subst (λ q. has met (k.setting q) ≡ false) l e
      either false e true n (inr l) = n l
      either false e false n l = n l
