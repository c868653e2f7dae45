-- The best list: as plans have it, behind its first operation, and where other lists are taken away. Assumes nothing.
use Rattle.std.proofs.Common.{◌≡◌, ℕ, suc, ◌⊎◌, List, ◌∷◌, length, refl, ap, subst, inl, inr, arith}
use Rattle.plant.specs.Meaning.{Meaning, Steps, Leads}
use Rattle.legs.specs.Lists.{Earlier, Distance, Earliest}
use Rattle.legs.proofs.Lists.{steps_once}
use Rattle.promise.specs.Promise.{Best}

-- the earliest of the least length is the best
pub best_from : (m : Meaning) (s t : ℕ) (os : List ℕ) → Distance m (length os) s t → Earliest m (length os) s t os → Best m s t os
best_from m s t os d e =
    record {
      leads = e.leads;
      shortest = λ ps h. d.1 (length ps) (ps, refl, h);
      earliest = λ ps h long. e.before_all ps long h;
    }

same_first : (o : ℕ) (os ps : List ℕ) → (◌≡◌ {A = List ℕ} (o ∷ os) (o ∷ ps)) ⊎ Earlier (o ∷ os) (o ∷ ps) → (os ≡ ps) ⊎ Earlier os ps
same_first o os ps (inl e) = inl (cc)
same_first o os ps (inr (inl l)) = absurd (omega arith)
same_first o os ps (inr (inr e)) = inr e.1

-- behind its first operation it is the best from where that leads
pub best_behind : (m : Meaning) (s u t o : ℕ) (os : List ℕ) → Best m s t (o ∷ os) → Steps m s o u → Best m u t os
best_behind m s u t o os b step =
    record {
      leads = subst (λ v. Leads m v os t) (steps_once m s o b.leads.0 u b.leads.1 step) b.leads.2;
      shortest = λ ps h. omega (arith, b.shortest (o ∷ ps) (u, step, h));
      earliest = λ ps h long. same_first o os ps (b.earliest (o ∷ ps) (u, step, h) (ap suc long));
    }

-- where only other lists are taken away, it stays the best
pub best_fewer :
    (m fewer : Meaning) (s t : ℕ) (os : List ℕ) → ((ps : List ℕ) → Leads fewer s ps t → Leads m s ps t) → Leads fewer s os t
    → Best m s t os → Best fewer s t os
best_fewer m fewer s t os less there b =
    record {
      leads = there;
      shortest = λ ps h. b.shortest ps (less ps h);
      earliest = λ ps h long. b.earliest ps (less ps h) long;
    }
