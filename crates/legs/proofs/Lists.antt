-- Lists of operations one after another. Assumes nothing.
use Rattle.std.proofs.Common.{◌≡◌, ℕ, List, [], ◌∷◌, ◌++◌, sym, refl, ◌∙◌, subst}
use Rattle.plant.specs.Meaning.{Meaning, Steps, Leads}

module _ (m : Meaning) where
  pub leads_append : (os ps : List ℕ) (s u t : ℕ) → Leads m s os u → Leads m u ps t → Leads m s (os ++ ps) t
  leads_append [] ps s u t e l = subst (λ v. Leads m v ps t) (sym e) l
  leads_append (o ∷ os) ps s u t l n = (l.0, l.1, leads_append os ps l.0 u t l.2 n)

  pub leads_split : (os ps : List ℕ) (s t : ℕ) → Leads m s (os ++ ps) t → (u : ℕ) × Leads m s os u × Leads m u ps t
  leads_split [] ps s t l = (s, refl, l)
  leads_split (o ∷ os) ps s t l = let r = leads_split os ps l.0 t l.2 in (r.0, (l.0, l.1, r.1), r.2)

  pub one_leads : (s o t : ℕ) → Steps m s o t → Leads m s (o ∷ []) t
  one_leads s o t h = (t, h, refl)

  -- a step, and so a list, leads to one setting at most
  pub steps_once : (s o t u : ℕ) → Steps m s o t → Steps m s o u → t ≡ u
  steps_once s o t u a b = cc

  pub leads_once : (os : List ℕ) (s t u : ℕ) → Leads m s os t → Leads m s os u → t ≡ u
  leads_once [] s t u a b = sym a ∙ b
  leads_once (o ∷ os) s t u a b =
      leads_once os a.0 t u a.2 (subst (λ v. Leads m v os u) (steps_once s o b.0 a.0 b.1 a.1) b.2)
