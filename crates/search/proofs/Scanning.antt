-- Looking at one record after another finds a setting, or that it is not there. Assumes nothing.
use Rattle.std.proofs.Common.{◌≡◌, ℕ, zero, suc, ◌<◌, Bool, true, false, cond, ◌||◌, eqb, List, [], ◌∷◌, ◌++◌, map, length, get_or, take, drop, Some, None, Option, inl, inr, sym, refl, ap, ◌∙◌, arith}
use Rattle.std.specs.List.{find}
use Rattle.std.proofs.lemmas.List.{get_or-map, drop-map, map-append, take-append-drop}
use Rattle.std.proofs.lemmas.Bool.{eq-eqb, eqb-true, or_left, or_right}
use Rattle.legs.specs.Layers.{has}
use Rattle.search.specs.Walked.{Hit}

module _ {X : Type 0} (f : X → ℕ) where
  -- a record's setting is told at its place
  pub told_here : (xs : List X) (i : ℕ) (x : X) → i < length xs → x ≡ get_or xs i x → get_or (map f xs) i 0 ≡ f x
  told_here xs i x h read = get_or-map f xs i x 0 h ∙ ap f (sym read)

  -- the first record that passes the test tells the setting
  pub find_hit : (xs : List X) (u : ℕ) → Hit f xs u (find (λ x. eqb (f x) u) xs)
  find_hit [] u = refl
  find_hit (x ∷ xs) u = by (eqb (f x) u) refl (find_hit xs u)
    where
      later : (o : Option X) → eqb (f x) u ≡ false → Hit f xs u o → Hit f (x ∷ xs) u o
      later (Some r) ne h = (inr h.0, h.1)
      later None ne h = ap (λ b. b || has (map f xs) u) ne ∙ h

      by : (b : Bool) → eqb (f x) u ≡ b → Hit f xs u (find (λ y. eqb (f y) u) xs) → Hit f (x ∷ xs) u (cond b (Some x) (find (λ y. eqb (f y) u) xs))
      by true is rest = (inl refl, eqb-true (f x) u is)
      by false ne rest = later (find (λ y. eqb (f y) u) xs) ne rest

-- the settings of the first records, and those behind them
pub front_and_rest : {X : Type 0} (f : X → ℕ) (n : ℕ) (xs : List X) → map f (take n xs) ++ drop n (map f xs) ≡ map f xs
front_and_rest f n xs = ap (λ ys. map f (take n xs) ++ ys) (drop-map f n xs) ∙ sym (map-append f (take n xs) (drop n xs)) ∙ ap (map f) (take-append-drop n xs)

-- what stands at a place is there
pub has_at : (ss : List ℕ) (i u : ℕ) → i < length ss → get_or ss i 0 ≡ u → has ss u ≡ true
has_at [] i u h e = absurd (omega arith)
has_at (s ∷ ss) zero u h e = or_left (eqb s u) (has ss u) (eq-eqb s u e)
has_at (s ∷ ss) (suc i) u h e = or_right (eqb s u) (has ss u) (has_at ss i u (omega arith) e)
