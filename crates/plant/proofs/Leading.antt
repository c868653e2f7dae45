-- What is worked out of a list is where it leads, and one operation more. Assumes nothing.
use Rattle.std.proofs.Common.{◌≡◌, ℕ, ◌+◌, ◌<◌, ◌≤◌, List, [], ◌∷◌, length, get_or, drop, Some, ap, ◌∙◌}
use Rattle.std.specs.Option.{option_and_then}
use Rattle.std.proofs.lemmas.List.{drop_more, drop_all}
use Rattle.std.proofs.lemmas.Option.{option_and_then_some}
use Rattle.plant.specs.Meaning.{Meaning, Leads}
use Rattle.plant.specs.Follow.{after}

pub leads_from_after : (m : Meaning) (os : List ℕ) (s t : ℕ) → after m s os ≡ Some t → Leads m s os t
leads_from_after m [] s t e = cc
leads_from_after m (o ∷ os) s t e =
    option_and_then_some (λ u. after m u os) (m.step s o) t e (λ u steps rest. (u, steps, leads_from_after m os u t rest))

pub after_from_leads : (m : Meaning) (os : List ℕ) (s t : ℕ) → Leads m s os t → after m s os ≡ Some t
after_from_leads m [] s t h = ap Some h
after_from_leads m (o ∷ os) s t h = ap (option_and_then (λ u. after m u os)) h.1 ∙ after_from_leads m os h.0 t h.2

-- from the operation at i on
pub after_more : (m : Meaning) (s : ℕ) (os : List ℕ) (i : ℕ) → i < length os → after m s (drop i os) ≡ option_and_then (λ u. after m u (drop (i + 1) os)) (m.step s (get_or os i 0))
after_more m s os i h = ap (after m s) (drop_more os i 0 h)

pub after_all : (m : Meaning) (s : ℕ) (os : List ℕ) (i : ℕ) → length os ≤ i → after m s (drop i os) ≡ Some s
after_all m s os i h = ap (after m s) (drop_all i os h)
