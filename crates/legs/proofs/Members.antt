-- What `has` tells of a list made of others, and membership of records by recursion. Assumes nothing.
use Rattle.std.proofs.Common.{◌≡◌, ℕ, zero, suc, ◌<◌, true, ◌||◌, eqb, ◌⊎◌, List, [], ◌∷◌, ◌++◌, map, length, get_or, sym, refl, ap, ◌∙◌, inl, inr, ⊎_elim, arith}
use mathlib.Core.Bool.{or_assoc}
use Rattle.std.proofs.lemmas.Bool.{eq-eqb, eqb-true, or_cases, or_left, or_right, false≢true}
use Rattle.legs.specs.Layers.{has, In}

pub has_here : (v u : ℕ) (vs : List ℕ) → v ≡ u → has (v ∷ vs) u ≡ true
has_here v u vs e = or_left _ _ (eq-eqb v u e)

pub has_later : (v u : ℕ) (vs : List ℕ) → has vs u ≡ true → has (v ∷ vs) u ≡ true
has_later v u vs h = or_right (eqb v u) _ h

pub has_cases : (v u : ℕ) (vs : List ℕ) → has (v ∷ vs) u ≡ true → (v ≡ u) ⊎ (has vs u ≡ true)
has_cases v u vs h = ⊎_elim (λ e. inl (eqb-true v u e)) (λ e. inr e) (or_cases (eqb v u) (has vs u) h)

pub has_append : (us vs : List ℕ) (u : ℕ) → has (us ++ vs) u ≡ (has us u || has vs u)
has_append [] vs u = refl
has_append (w ∷ us) vs u = ap (λ b. eqb w u || b) (has_append us vs u) ∙ sym (or_assoc (eqb w u) (has us u) (has vs u))

module _ {X : Type 0} where
  pub in_left : (x : X) (xs ys : List X) → In x xs → In x (xs ++ ys)
  in_left x [] ys i = absurd i
  in_left x (z ∷ xs) ys (inl e) = inl e
  in_left x (z ∷ xs) ys (inr i) = inr (in_left x xs ys i)

  pub in_right : (x : X) (xs ys : List X) → In x ys → In x (xs ++ ys)
  in_right x [] ys i = i
  in_right x (z ∷ xs) ys i = inr (in_right x xs ys i)

  pub in_append_cases : (x : X) (xs ys : List X) → In x (xs ++ ys) → In x xs ⊎ In x ys
  in_append_cases x [] ys i = inr i
  in_append_cases x (z ∷ xs) ys (inl e) = inl (inl e)
  in_append_cases x (z ∷ xs) ys (inr i) = ⊎_elim (λ l. inl (inr l)) (λ r. inr r) (in_append_cases x xs ys i)

  -- what stands at a place stands in the list, and the other way round
  pub in_getD : (xs : List X) (i : ℕ) (d : X) → i < length xs → In (get_or xs i d) xs
  in_getD [] i d l = absurd (omega arith)
  in_getD (x ∷ xs) zero d l = inl refl
  in_getD (x ∷ xs) (suc i) d l = inr (in_getD xs i d (omega arith))

  pub in_place : (x : X) (xs : List X) → In x xs → (i : ℕ) × (i < length xs) × ((d : X) → get_or xs i d ≡ x)
  in_place x [] i = absurd i
  in_place x (y ∷ xs) (inl e) = (zero, omega arith, λ d. e)
  in_place x (y ∷ xs) (inr i) = let r = in_place x xs i in (suc r.0, omega (arith, r.1), r.2)

  -- a setting told by the records is told by one of them, and the other way round
  pub has_told : (f : X → ℕ) (xs : List X) (u : ℕ) → has (map f xs) u ≡ true → (x : X) × In x xs × (f x ≡ u)
  has_told f [] u h = absurd (false≢true h)
  has_told f (x ∷ xs) u h =
      ⊎_elim (λ e. (x, inl refl, e)) (λ l. let r = has_told f xs u l in (r.0, inr r.1, r.2)) (has_cases (f x) u (map f xs) h)

  pub told_has : (f : X → ℕ) (x : X) (xs : List X) → In x xs → has (map f xs) (f x) ≡ true
  told_has f x [] i = absurd i
  told_has f x (y ∷ xs) (inl e) = has_here (f y) (f x) (map f xs) (ap f e)
  told_has f x (y ∷ xs) (inr i) = has_later (f y) (f x) (map f xs) (told_has f x xs i)

module _ {X Y : Type 0} (f : X → Y) where
  pub in_map : (x : X) (xs : List X) → In x xs → In (f x) (map f xs)
  in_map x [] i = i
  in_map x (y ∷ xs) (inl e) = inl (ap f e)
  in_map x (y ∷ xs) (inr i) = inr (in_map x xs i)

  pub map_in : (y : Y) (xs : List X) → In y (map f xs) → (x : X) × In x xs × (f x ≡ y)
  map_in y [] i = absurd i
  map_in y (x ∷ xs) (inl e) = (x, inl refl, e)
  map_in y (x ∷ xs) (inr i) = let r = map_in y xs i in (r.0, inr r.1, r.2)
