-- Both parts of the earliest shortest list are the earliest shortest of their own ends, and joined they give it again. Over any lawful meaning.
use Rattle.std.proofs.Common.{◌≡◌, ℕ, ◌+◌, ◌-◌, ◌≤◌, List, [], ◌∷◌, ◌++◌, length, take, drop, sym, refl, ap, ◌∙◌, subst, inl, inr, ⊎_elim, arith}
use Rattle.std.proofs.lemmas.List.{append_cancel_left, append_cancel_right, length-append, length-take-le, length-drop, take-append-drop}
use Rattle.plant.specs.Meaning.{Meaning, Leads}
use Rattle.legs.specs.Lists.{Earliest, Linked, Distance, landing, after}
use Rattle.legs.specs.PlanLaws.{Parts}
use Rattle.legs.proofs.Lists.{leads_append, leads_split}
use Rattle.legs.proofs.Earlier.{earlier_from_front, earlier_from_behind}

module _ (m : Meaning) where
  -- the setting after a list is where it leads
  pub after_leads : (os : List ℕ) (s t : ℕ) → Leads m s os t → after m s os ≡ t
  after_leads [] s t l = l
  after_leads (o ∷ os) s t l = ap (λ x. after m (landing s x) os) l.1 ∙ after_leads os l.0 t l.2

  module _ (os ps : List ℕ) (s r t : ℕ) (front : Leads m s os r) (back : Leads m r ps t) where
    front_distance : ((k : ℕ) → Linked m k s t → length os + length ps ≤ k) → Distance m (length os) s r
    front_distance least = (
      (os, refl, front),
      λ k l. omega (arith, least (k + length ps) (l.0 ++ ps, length-append l.0 ps ∙ ap (λ n. n + length ps) l.1, leads_append m l.0 ps s r t l.2 back)),
    )

    back_distance : ((k : ℕ) → Linked m k s t → length os + length ps ≤ k) → Distance m (length ps) r t
    back_distance least = (
      (ps, refl, back),
      λ k l. omega (arith, least (length os + k) (os ++ l.0, length-append os l.0 ∙ ap (λ n. length os + n) l.1, leads_append m os l.0 s r t front l.2)),
    )

    front_earliest : Earliest m (length os + length ps) s t (os ++ ps) → Earliest m (length os) s r os
    front_earliest e =
        record {
          leads = front;
          long = refl;
          before_all = λ qs l h.
              ⊎_elim (λ x. inl (append_cancel_right os qs ps x)) (λ x. inr (earlier_from_front os qs ps (sym l) x))
              (e.before_all (qs ++ ps) (length-append qs ps ∙ ap (λ n. n + length ps) l) (leads_append m qs ps s r t h back));
        }

    back_earliest : Earliest m (length os + length ps) s t (os ++ ps) → Earliest m (length ps) r t ps
    back_earliest e =
        record {
          leads = back;
          long = refl;
          before_all = λ qs l h.
              ⊎_elim (λ x. inl (append_cancel_left os ps qs x)) (λ x. inr (earlier_from_behind os ps qs x))
              (e.before_all (os ++ qs) (length-append os qs ∙ ap (λ n. length os + n) l) (leads_append m os qs s r t front h));
        }

  pub parts : Parts m
  parts n s t os h d e within =
      let whole : take h os ++ drop h os ≡ os = take-append-drop h os in
      let front_long : length (take h os) ≡ h = length-take-le h os (omega (arith, e.long)) in
      let back_long : length (drop h os) ≡ n - h = length-drop h os ∙ ap (λ x. x - h) e.long in
      let long : n ≡ length (take h os) + length (drop h os) = omega (arith, front_long, back_long) in
      let l = leads_split m (take h os) (drop h os) s t (subst (λ x. Leads m s x t) (sym whole) e.leads) in
      let at : l.0 ≡ after m s (take h os) = sym (after_leads (take h os) s l.0 l.1) in
      let front : Leads m s (take h os) (after m s (take h os)) = subst (Leads m s (take h os)) at l.1 in
      let back : Leads m (after m s (take h os)) (drop h os) t = subst (λ x. Leads m x (drop h os) t) at l.2 in
      let least : (k : ℕ) → Linked m k s t → length (take h os) + length (drop h os) ≤ k = λ k x. omega (arith, d.1 k x, long) in
      let first : Earliest m (length (take h os) + length (drop h os)) s t (take h os ++ drop h os) =
      subst (λ x. Earliest m x s t (take h os ++ drop h os)) long (subst (Earliest m n s t) (sym whole) e) in (
        subst (λ x. Distance m x s (after m s (take h os))) front_long (front_distance (take h os) (drop h os) s (after m s (take h os)) t front back least),
        subst (λ x. Earliest m x s (after m s (take h os)) (take h os)) front_long (front_earliest (take h os) (drop h os) s (after m s (take h os)) t front back first),
        subst (λ x. Distance m x (after m s (take h os)) t) back_long (back_distance (take h os) (drop h os) s (after m s (take h os)) t front back least),
        subst (λ x. Earliest m x (after m s (take h os)) t (drop h os)) back_long (back_earliest (take h os) (drop h os) s (after m s (take h os)) t front back first),
      )
