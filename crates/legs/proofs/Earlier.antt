-- The order of lists, from the first operation and, for lists kept with the last operation first, from the last. Assumes nothing.
use Rattle.std.proofs.Common.{◌≡◌, ℕ, ◌<◌, ◌⊎◌, List, [], ◌∷◌, ◌++◌, reverse, length, sym, refl, ap, ◌∙◌, subst, inl, inr, arith}
use mathlib.Core.List.{reverse-cons}
use Rattle.legs.specs.Lists.{Earlier}

pub earlier_never : (os : List ℕ) → Earlier os os → ⊥
earlier_never [] e = e
earlier_never (o ∷ os) (inl l) = omega arith
earlier_never (o ∷ os) (inr e) = earlier_never os e.1

pub earlier_one_way : (os ps : List ℕ) → Earlier os ps → Earlier ps os → ⊥
earlier_one_way [] ps a b = a
earlier_one_way (o ∷ os) [] a b = a
earlier_one_way (o ∷ os) (p ∷ ps) (inl a) (inl b) = omega arith
earlier_one_way (o ∷ os) (p ∷ ps) (inl a) (inr b) = omega (arith, b.0)
earlier_one_way (o ∷ os) (p ∷ ps) (inr a) (inl b) = omega (arith, a.0)
earlier_one_way (o ∷ os) (p ∷ ps) (inr a) (inr b) = earlier_one_way os ps a.1 b.1

-- what follows does not matter once the lists differ
pub earlier_append : (os ps qs rs : List ℕ) → Earlier os ps → Earlier (os ++ qs) (ps ++ rs)
earlier_append [] ps qs rs e = absurd e
earlier_append (o ∷ os) [] qs rs e = absurd e
earlier_append (o ∷ os) (p ∷ ps) qs rs (inl l) = inl l
earlier_append (o ∷ os) (p ∷ ps) qs rs (inr e) = inr (e.0, earlier_append os ps qs rs e.1)

pub earlier_behind : (os qs rs : List ℕ) → Earlier qs rs → Earlier (os ++ qs) (os ++ rs)
earlier_behind [] qs rs e = e
earlier_behind (o ∷ os) qs rs e = inr (refl, earlier_behind os qs rs e)

pub earlier_from_behind : (os qs rs : List ℕ) → Earlier (os ++ qs) (os ++ rs) → Earlier qs rs
earlier_from_behind [] qs rs e = e
earlier_from_behind (o ∷ os) qs rs (inl l) = absurd (omega arith)
earlier_from_behind (o ∷ os) qs rs (inr e) = earlier_from_behind os qs rs e.1

pub earlier_from_front : (os ps qs : List ℕ) → length os ≡ length ps → Earlier (os ++ qs) (ps ++ qs) → Earlier os ps
earlier_from_front [] [] qs l e = earlier_never qs e
earlier_from_front [] (p ∷ ps) qs l e = absurd (omega arith)
earlier_from_front (o ∷ os) [] qs l e = absurd (omega arith)
earlier_from_front (o ∷ os) (p ∷ ps) qs l (inl a) = inl a
earlier_from_front (o ∷ os) (p ∷ ps) qs l (inr e) = inr (e.0, earlier_from_front os ps qs (omega arith) e.1)

-- the same order of lists that are kept with the last operation first
abbrev pub Before : List ℕ → List ℕ → Type 0
Before [] ps = ⊥
Before (o ∷ os) [] = ⊥
Before (o ∷ os) (p ∷ ps) = Before os ps ⊎ ((os ≡ ps) × (o < p))

abbrev pub Upto : List ℕ → List ℕ → Type 0
Upto os ps = (os ≡ ps) ⊎ Before os ps

pub before_earlier : (os ps : List ℕ) → Before os ps → Earlier (reverse os) (reverse ps)
before_earlier [] ps b = absurd b
before_earlier (o ∷ os) [] b = absurd b
before_earlier (o ∷ os) (p ∷ ps) (inl b) =
    rw (reverse-cons o os, reverse-cons p ps) (earlier_append (reverse os) (reverse ps) (o ∷ []) (p ∷ []) (before_earlier os ps b))
before_earlier (o ∷ os) (p ∷ ps) (inr e) =
    rw (reverse-cons o os, reverse-cons p ps) (subst (λ l. Earlier (reverse os ++ o ∷ []) (reverse l ++ p ∷ [])) e.0 (earlier_behind (reverse os) (o ∷ []) (p ∷ []) (inl e.1)))

pub before_then : (os ps qs : List ℕ) → Before os ps → Before ps qs → Before os qs
before_then [] ps qs a b = a
before_then (o ∷ os) [] qs a b = absurd a
before_then (o ∷ os) (p ∷ ps) [] a b = b
before_then (o ∷ os) (p ∷ ps) (q ∷ qs) (inl a) (inl b) = inl (before_then os ps qs a b)
before_then (o ∷ os) (p ∷ ps) (q ∷ qs) (inl a) (inr b) = inl (subst (λ l. Before os l) b.0 a)
before_then (o ∷ os) (p ∷ ps) (q ∷ qs) (inr a) (inl b) = inl (subst (λ l. Before l qs) (sym a.0) b)
before_then (o ∷ os) (p ∷ ps) (q ∷ qs) (inr a) (inr b) = inr (a.0 ∙ b.0, omega (arith, a.1, b.1))

pub upto_then : (os ps qs : List ℕ) → Upto os ps → Upto ps qs → Upto os qs
upto_then os ps qs (inl a) b = subst (λ l. Upto l qs) (sym a) b
upto_then os ps qs (inr a) (inl b) = inr (subst (λ l. Before os l) b a)
upto_then os ps qs (inr a) (inr b) = inr (before_then os ps qs a b)

pub upto_more : (o : ℕ) (os ps : List ℕ) → Upto os ps → Upto (o ∷ os) (o ∷ ps)
upto_more o os ps (inl e) = inl (ap (λ l. o ∷ l) e)
upto_more o os ps (inr b) = inr (inl b)
