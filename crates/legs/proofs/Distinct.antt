-- Lists that hold no number twice: how they are made, and that they are no longer than a bound on their numbers. Assumes nothing.
use Rattle.std.proofs.Common.{◌≡◌, ℕ, zero, suc, ◌<◌, ◌≤◌, Bool, true, false, cond, not, ◌||◌, eqb, List, [], ◌∷◌, ◌++◌, length, refl, ◌∙◌, subst, ⊎_elim, arith}
use Rattle.std.proofs.lemmas.Bool.{cases_Bool, cases_lt, eqb-true, both_ways, or_from}
use Rattle.legs.specs.Kinds.{plain}
use Rattle.legs.specs.Layers.{has, kept}
use Rattle.legs.specs.Laws.{Distinct}
use Rattle.legs.proofs.Members.{has_here, has_later, has_cases, has_append}
use Rattle.legs.proofs.Kept.{kept_parts}

-- what does not hold is false
pub has_not : (us : List ℕ) (u : ℕ) → (has us u ≡ true → ⊥) → has us u ≡ false
has_not us u n = ⊎_elim (λ t. absurd (n t)) (λ f. f) (cases_Bool (has us u))

pub distinct_append : (us vs : List ℕ) → Distinct us → Distinct vs → ((u : ℕ) → has us u ≡ true → has vs u ≡ true → ⊥) → Distinct (us ++ vs)
distinct_append [] vs a b n = b
distinct_append (u ∷ us) vs a b n = (
  has_append us vs u ∙ or_from (has us u) (has vs u) a.0 (has_not vs u (λ t. n u (has_here u u us refl) t)),
  distinct_append us vs a.1 b (λ w h t. n w (has_later u w us h) t),
)

pub distinct_kept : (fit : ℕ → Bool) (met us : List ℕ) → Distinct (kept plain fit met us)
distinct_kept fit met [] = tt
distinct_kept fit met (u ∷ us) = either (has met u || not (fit u)) (distinct_kept fit (u ∷ met) us)
  where
    either : (b : Bool) → Distinct (kept plain fit (u ∷ met) us) → Distinct (cond b (kept plain fit (u ∷ met) us) (u ∷ kept plain fit (u ∷ met) us))
    either true d = d
    either false d =
        (has_not (kept plain fit (u ∷ met) us) u (λ t. both_ways (has (u ∷ met) u) (kept_parts fit (u ∷ met) us u t).1 (has_here u u met refl)), d)

-- the list with the first x taken out
abbrev without : ℕ → List ℕ → List ℕ
without x [] = []
without x (u ∷ us) = cond (eqb u x) us (u ∷ without x us)

without_length : (x : ℕ) (us : List ℕ) → length us ≤ suc (length (without x us))
without_length x [] = omega arith
without_length x (u ∷ us) = either (eqb u x) (without_length x us)
  where
    either : (b : Bool) → length us ≤ suc (length (without x us)) → suc (length us) ≤ suc (length (cond b us (u ∷ without x us)))
    either true l = omega arith
    either false l = omega arith

without_has : (x : ℕ) (us : List ℕ) (w : ℕ) → has (without x us) w ≡ true → has us w ≡ true
without_has x [] w h = h
without_has x (u ∷ us) w h = either (eqb u x) (λ t. without_has x us w t) h
  where
    either : (b : Bool) → (has (without x us) w ≡ true → has us w ≡ true) → has (cond b us (u ∷ without x us)) w ≡ true → has (u ∷ us) w ≡ true
    either true n t = has_later u w us t
    either false n t = ⊎_elim (λ e. has_here u w us e) (λ l. has_later u w us (n l)) (has_cases u w (without x us) t)

without_distinct : (x : ℕ) (us : List ℕ) → Distinct us → Distinct (without x us) × (has (without x us) x ≡ false)
without_distinct x [] d = (tt, refl)
without_distinct x (u ∷ us) d = either (eqb u x) refl (without_distinct x us d.1)
  where
    either :
        (b : Bool) → eqb u x ≡ b → Distinct (without x us) × (has (without x us) x ≡ false)
        → Distinct (cond b us (u ∷ without x us)) × (has (cond b us (u ∷ without x us)) x ≡ false)
    either true e r = (d.1, subst (λ w. has us w ≡ false) (eqb-true u x e) d.0)
    either false e r = (
      (has_not (without x us) u (λ t. both_ways (has us u) d.0 (without_has x us u t)), r.0),
      or_from (eqb u x) (has (without x us) x) e r.1,
    )

-- distinct numbers below n are at most n
pub pigeonhole : (n : ℕ) (us : List ℕ) → Distinct us → ((u : ℕ) → has us u ≡ true → u < n) → length us ≤ n
pigeonhole zero [] d below = omega arith
pigeonhole zero (u ∷ us) d below = absurd (omega (arith, below u (has_here u u us refl)))
pigeonhole (suc n) us d below =
    let r = without_distinct n us d in
    let short = pigeonhole n (without n us) r.0 (λ u h. lower u h r.1) in
    omega (arith, without_length n us, short)
  where
    lower : (u : ℕ) → has (without n us) u ≡ true → has (without n us) n ≡ false → u < n
    lower u h f =
        let b = below u (without_has n us u h) in
        ⊎_elim (λ l. l) (λ l. absurd (let e : u ≡ n = omega (arith, b, l) in both_ways (has (without n us) n) f (subst (λ w. has (without n us) w ≡ true) e h))) (cases_lt u n)
