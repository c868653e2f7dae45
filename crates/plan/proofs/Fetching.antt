-- A fetch by halves writes the earliest list and counts its legs, and finds out where a leg needs more records. Over any
-- lawful meaning.
use Rattle.std.proofs.Common.{◌≡◌, ℕ, ◌+◌, ◌-◌, ◌/◌, ◌<◌, ◌≤◌, List, [], ◌∷◌, ◌++◌, length, set, Some, None, Ok, Err, Result, sym, refl, ap, ◌∙◌, subst, ⊎_elim, arith}
use Rattle.std.specs.Result.{result_ok}
use Rattle.std.proofs.lemmas.Bool.{cases_lt}
use Rattle.plant.specs.Meaning.{Meaning, Steps, Leads}
use Rattle.plant.specs.Laws.{Lawful}
use Rattle.plant.specs.declared.refusal.Refusal.{Refusal}
use Rattle.legs.specs.declared.relayed.Relayed.{Relayed}
use Rattle.legs.specs.Layers.{Leg, In, layer}
use Rattle.legs.specs.Legs.{expanded, need}
use Rattle.legs.specs.Lists.{Distance, earliest}
use Rattle.legs.specs.Kinds.{Kind}
use Rattle.legs.specs.Relays.{relays}
use Rattle.legs.specs.Answers.{measured}
use Rattle.legs.specs.Plans.{halfway, fetch_leg, fetch_legs, count, most_need}
use Rattle.legs.specs.PlanLaws.{InRange}
use Rattle.legs.proofs.Fetch.{no_halves, first_half, second_half, halves_joined, relays_halfway, earliest_one}
use Rattle.legs.proofs.Counts.{fetch_count, fetch_need, halfway_below, expanded_few}
use Rattle.legs.proofs.PlanLaws.{plans_lawful}
use Rattle.search.specs.declared.leg_search.Reached.{Reached}
use Rattle.search.specs.Answered.{LegAnswer}
use Rattle.plan.specs.Lowest.{Lowest}
use Rattle.plan.specs.Fetched.{Fetched}

-- a leg that is searched has an answer by its definition, or is refused
pub leg_refused : {R : Type 0} (m : Meaning) (k : Kind R) (g : Leg) (n : ℕ) (x : Result (Reached R) Refusal) → LegAnswer m k g n x → None ≡ result_ok x → (e : Refusal) × (measured m g n ≡ Err e)
leg_refused m k g n (Ok r) a none = let clash : ◌≡◌ {A = ℕ} 0 1 = cc in absurd (omega arith)
leg_refused m k g n (Err e) a none = (e, a)

pub leg_answered : {R : Type 0} (m : Meaning) (k : Kind R) (g : Leg) (n : ℕ) (x : Result (Reached R) Refusal) (r : Reached R) → LegAnswer m k g n x → Some r ≡ result_ok x → LegAnswer m k g n (Ok r)
leg_answered m k g n (Ok q) r a some = let same : q ≡ r = cc in subst (λ z. LegAnswer m k g n (Ok z)) same a
leg_answered m k g n (Err e) r a some = let clash : ◌≡◌ {A = ℕ} 0 1 = cc in absurd (omega arith)

module _ (m : Meaning) (lawful : Lawful m) where
  -- short lists take no leg
  no_legs : (n s t records : ℕ) (list : List ℕ) → n < 2 → earliest m n s t ≡ Some list → Fetched m n s t records list (Some 0)
  no_legs n s t records list low e =
      let none = no_halves m n s t low in
      (e, sym (ap (count m) none), omega (arith, ap (most_need m) none), omega arith)

  pub fetched_one : (n s t records o : ℕ) (list : List ℕ) → n ≡ 1 → length list ≡ n → Lowest m s t (Some o) → Fetched m n s t records (set list 0 o) (Some 0)
  fetched_one n s t records o list one long low =
      no_legs n s t records (set list 0 o) (omega arith)
      (ap (λ k. earliest m k s t) one ∙ earliest_one m lawful s o t low.0 low.1 ∙ ap Some (sym (put list (long ∙ one))))
    where
      put : (xs : List ℕ) → length xs ≡ 1 → set xs 0 o ≡ o ∷ []
      put [] l = absurd (omega arith)
      put (x ∷ []) l = refl
      put (x ∷ (y ∷ ys)) l = absurd (omega arith)

  -- one operation leads there, so a lowest one does
  pub some_lowest : (n s t : ℕ) → n ≡ 1 → Distance m n s t → Lowest m s t None → ⊥
  some_lowest n s t one d none = one_way d.0.0 (d.0.1 ∙ one) d.0.2
    where
      one_way : (os : List ℕ) → length os ≡ 1 → Leads m s os t → ⊥
      one_way [] l h = absurd (omega arith)
      one_way (o ∷ []) l h =
          let there : Steps m s o t = subst (Steps m s o) h.2 h.1 in
          ⊎_elim (λ below. none o below there) (λ past. some_none (lawful.operation_past s o past) there) (cases_lt o m.operations)
        where
          some_none : m.step s o ≡ None → Steps m s o t → ⊥
          some_none e f = let clash : ◌≡◌ {A = ℕ} 0 1 = cc in absurd (omega arith)
      one_way (o ∷ (p ∷ os)) l h = absurd (omega arith)

  module _ (n s t records : ℕ) (two : 2 ≤ n) (few : n ≤ 255) (start : s < m.settings) (target : t < m.settings) (d : Distance m n s t) where
    in_range : InRange m (fetch_leg n s t)
    in_range = (start, target, few)

    -- the fetch's own leg is refused only for want of records
    pub leg_overfull : (e : Refusal) → measured m (fetch_leg n s t) records ≡ Err e → records < most_need m (fetch_legs m n s t)
    leg_overfull e refused =
        ⊎_elim
        (λ short. omega (arith, short, fetch_need m n s t two))
        (λ enough. absurd (not_refused (accepted_then enough)))
        (cases_lt records (need m (fetch_leg n s t)))
      where
        accepted_then : need m (fetch_leg n s t) ≤ records → measured m (fetch_leg n s t) records ≡ Ok (record { found = n; count = expanded m (fetch_leg n s t) })
        accepted_then enough = ((plans_lawful m lawful).measures.accepted (fetch_leg n s t) records (record { found = n; count = expanded m (fetch_leg n s t) })).1 (in_range, enough, ((omega arith, d), refl))

        not_refused : measured m (fetch_leg n s t) records ≡ Ok (record { found = n; count = expanded m (fetch_leg n s t) }) → ⊥
        not_refused ok = let clash : ◌≡◌ {A = ℕ} 0 1 = cc in omega arith

-- a fetch of two or more operations whose leg was searched: what it was asked, and what its leg answered
pub record Halves (m : Meaning) (n s t records : ℕ) (r : Reached Relayed) : Type 0 where
  pub two : 2 ≤ n
  pub few : n ≤ 255
  pub start : s < m.settings
  pub target : t < m.settings
  pub distance : Distance m n s t
  pub answer : LegAnswer m (relays n) (fetch_leg n s t) records (Ok r)

module _ {m : Meaning} (lawful : Lawful m) {n s t records : ℕ} {r : Reached Relayed} (h : Halves m n s t records r) where
  right : InRange m (fetch_leg n s t) × (need m (fetch_leg n s t) ≤ records) × (((r.length ≤ n) × Distance m r.length s t) × (expanded m (fetch_leg n s t) ≡ r.expanded))
  right = ((plans_lawful m lawful).measures.accepted (fetch_leg n s t) records (record { found = r.length; count = r.expanded })).0 h.answer.0

  long : r.length ≡ n
  long = omega (arith, h.distance.1 r.length right.2.0.1.0, right.2.0.0)

  pub leg_few : r.expanded ≤ 16777216
  leg_few = omega (arith, right.2.1, expanded_few m lawful (fetch_leg n s t) h.start, lawful.settings_most)

  -- the relay is the setting half way
  half : r.record.relay ≡ halfway m n s t
  half = relays_halfway m lawful n s t r.record h.two h.distance (subst (λ k. In r.record (layer m (relays n) (fetch_leg n s t) k)) long h.answer.1.0) h.answer.1.1

  pub relay_in : r.record.relay < m.settings
  relay_in = subst (λ x. x < m.settings) (sym half) (halfway_below m lawful n s t h.start)

  pub first_distance : (k : ℕ) → k ≡ n / 2 → Distance m k s r.record.relay
  first_distance k e = subst (λ j. Distance m j s r.record.relay) (sym e) (subst (Distance m (n / 2) s) (sym half) (first_half m lawful n s t h.distance))

  pub second_distance : (k : ℕ) → k ≡ n - n / 2 → Distance m k r.record.relay t
  second_distance k e = subst (λ j. Distance m j r.record.relay t) (sym e) (subst (λ x. Distance m (n - n / 2) x t) (sym half) (second_half m lawful n s t h.distance))

  -- a half that needs more records
  pub first_overfull : (k : ℕ) (list : List ℕ) → k ≡ n / 2 → Fetched m k s r.record.relay records list None → records < most_need m (fetch_legs m n s t)
  first_overfull k list e short =
      let here = subst (λ j. records < most_need m (fetch_legs m j s r.record.relay)) e short in
      let there = subst (λ x. records < most_need m (fetch_legs m (n / 2) s x)) half here in
      omega (arith, there, fetch_need m n s t h.two)

  pub second_overfull : (k : ℕ) (list : List ℕ) → k ≡ n - n / 2 → Fetched m k r.record.relay t records list None → records < most_need m (fetch_legs m n s t)
  second_overfull k list e short =
      let here = subst (λ j. records < most_need m (fetch_legs m j r.record.relay t)) e short in
      let there = subst (λ x. records < most_need m (fetch_legs m (n - n / 2) x t)) half here in
      omega (arith, there, fetch_need m n s t h.two)

  -- both halves
  pub fetched_both :
      (j k b c : ℕ) (os ps : List ℕ) → j ≡ n / 2 → k ≡ n - n / 2 → Fetched m j s r.record.relay records os (Some b) → Fetched m k r.record.relay t records ps (Some c)
      → Fetched m n s t records (os ++ ps) (Some (r.expanded + b + c))
  fetched_both j k b c os ps ej ek front back =
      let one = subst (λ x. Fetched m (n / 2) s x records os (Some b)) half (subst (λ i. Fetched m i s r.record.relay records os (Some b)) ej front) in
      let other = subst (λ x. Fetched m (n - n / 2) x t records ps (Some c)) half (subst (λ i. Fetched m i r.record.relay t records ps (Some c)) ek back) in (
        halves_joined m lawful n s t os ps h.distance one.0 other.0,
        omega (arith, one.1, other.1, right.2.1, fetch_count m n s t h.two),
        omega (arith, one.2, other.2, right.1, fetch_need m n s t h.two),
        omega (arith, one.3, other.3, leg_few),
      )
