-- An estimate that is 0 at the target and falls by at most one per operation is never above the length of a list
-- that leads there. Assumes nothing.
use Rattle.std.proofs.Common.{◌≡◌, ℕ, suc, ◌≤◌, List, [], ◌∷◌, length, subst, arith}
use Rattle.plant.specs.Meaning.{Meaning, Steps, Leads}

pub least_from_falls : (m : Meaning) → ((s : ℕ) → m.estimate s s ≡ 0) → ((s o u t : ℕ) → Steps m s o u → m.estimate s t ≤ suc (m.estimate u t)) → (os : List ℕ) (s t : ℕ) → Leads m s os t → m.estimate s t ≤ length os
least_from_falls m zeros falls [] s t h = subst (λ x. m.estimate s x ≤ 0) h (omega (arith, zeros s))
least_from_falls m zeros falls (o ∷ os) s t h =
    let rest = least_from_falls m zeros falls os h.0 t h.2 in
    let one = falls s o h.0 t h.1 in
    omega arith
