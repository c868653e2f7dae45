-- The legs of a fetch: its own and those of its halves, each as long as its bound; and what its relays and its list are. Over any lawful meaning.
use Rattle.std.proofs.Common.{◌≡◌, ℕ, zero, suc, ◌-◌, ◌/◌, ◌<◌, ◌≤◌, Bool, true, false, leb, ◌⊎◌, List, [], ◌∷◌, ◌++◌, reverse, length, take, drop, Some, sym, refl, ap, ◌∙◌, subst, ap₂, inl, inr, ⊎_elim, arith}
use Rattle.std.proofs.lemmas.List.{take-append-drop, nil_from_length}
use Rattle.std.proofs.lemmas.Bool.{le-leb, leb-true, cases_lt, cases_order, false≢true}
use Rattle.plant.specs.Meaning.{Meaning, Steps, Leads}
use Rattle.plant.specs.Laws.{Lawful}
use Rattle.legs.specs.Layers.{Leg, In}
use Rattle.legs.specs.Legs.{leg_length}
use Rattle.legs.specs.Lists.{Earlier, Earliest, Distance, after, earliest}
use Rattle.legs.specs.Relays.{relays}
use Rattle.legs.specs.Plans.{part_way, halfway, fetch_leg, halved, fetch_legs}
use Rattle.legs.specs.PlanLaws.{Relays, Fetches, Halves}
use Rattle.legs.proofs.Members.{in_append_cases, map_in}
use Rattle.legs.proofs.Ends.{least}
use Rattle.legs.proofs.Ways.{ways, ways_at}
use Rattle.legs.proofs.Relay.{relays_tell, way_earliest, relay_part_way}
use Rattle.legs.proofs.Earliest.{earliest_found, linked_found}
use Rattle.legs.proofs.Parts.{after_leads, parts}

module _ (m : Meaning) where
  pub halved_more :
      (f n s t : ℕ) → 2 ≤ n
      → halved m (suc f) n s t ≡ fetch_leg n s t ∷ (halved m f (n / 2) s (halfway m n s t) ++ halved m f (n - n / 2) (halfway m n s t) t)
  halved_more f n s t two = split (leb 2 n) (le-leb 2 n two)
    where
      legs : List Leg
      legs = fetch_leg n s t ∷ (halved m f (n / 2) s (halfway m n s t) ++ halved m f (n - n / 2) (halfway m n s t) t)

      split : (b : Bool) → b ≡ true → elim b [ true ↦ legs | false ↦ [] ] ≡ legs
      split true e = refl
      split false e = absurd (false≢true e)

  pub halved_none : (f n s t : ℕ) → n < 2 → halved m f n s t ≡ []
  halved_none zero n s t l = refl
  halved_none (suc f) n s t l = split (leb 2 n) refl
    where
      legs : List Leg
      legs = fetch_leg n s t ∷ (halved m f (n / 2) s (halfway m n s t) ++ halved m f (n - n / 2) (halfway m n s t) t)

      split : (b : Bool) → leb 2 n ≡ b → ◌≡◌ {A = List Leg} (elim b [ true ↦ legs | false ↦ [] ]) []
      split true e = absurd (omega (arith, leb-true 2 n e))
      split false e = refl

  -- enough halvings are enough
  halved_enough : (f e n s t : ℕ) → n ≤ f → n ≤ e → halved m f n s t ≡ halved m e n s t
  halved_enough zero e n s t a b = sym (halved_none e n s t (omega arith))
  halved_enough (suc f) zero n s t a b = halved_none (suc f) n s t (omega arith)
  halved_enough (suc f) (suc e) n s t a b =
      ⊎_elim
      (λ low. halved_none (suc f) n s t low ∙ sym (halved_none (suc e) n s t low))
      (λ two.
      halved_more f n s t two
      ∙ ap₂ (λ x y. fetch_leg n s t ∷ (x ++ y))
      (halved_enough f e (n / 2) s (halfway m n s t) (omega arith) (omega arith))
      (halved_enough f e (n - n / 2) (halfway m n s t) t (omega arith) (omega arith))
      ∙ sym (halved_more e n s t two))
      (cases_lt n 2)

  pub halves : Halves m
  halves zero s t two = absurd (omega arith)
  halves (suc f) s t two =
      halved_more f (suc f) s t two
      ∙ ap₂ (λ x y. fetch_leg (suc f) s t ∷ (x ++ y))
      (halved_enough f (suc f / 2) (suc f / 2) s (halfway m (suc f) s t) (omega arith) (omega arith))
      (halved_enough f (suc f - suc f / 2) (suc f - suc f / 2) (halfway m (suc f) s t) t (omega arith) (omega arith))

  -- below length 2 there are none
  pub no_halves : (n s t : ℕ) → n < 2 → fetch_legs m n s t ≡ []
  no_halves n s t l = halved_none n n s t l

  pub halfway_after : (n s t : ℕ) (os : List ℕ) → earliest m n s t ≡ Some os → after m s (take (n / 2) os) ≡ halfway m n s t
  halfway_after n s t os e = sym (ap (part_way m (n / 2) s) e)

  module _ (lawful : Lawful m) where
    pub fetch_length : (n s t : ℕ) → Distance m n s t → leg_length m (fetch_leg n s t) ≡ Some n
    fetch_length n s t d = (least m (fetch_leg n s t) lawful n).1 (omega arith, d.0, d.1)

    half_parts :
        (n s t : ℕ) → Distance m n s t
        → (os : List ℕ) × (earliest m n s t ≡ Some os)
        × Distance m (n / 2) s (halfway m n s t) × Earliest m (n / 2) s (halfway m n s t) (take (n / 2) os)
        × Distance m (n - n / 2) (halfway m n s t) t × Earliest m (n - n / 2) (halfway m n s t) t (drop (n / 2) os)
    half_parts n s t d =
        let f = linked_found m lawful n s t d.0 in
        let p = parts m n s t f.0 (n / 2) d f.2 (omega arith) in
        let at = halfway_after n s t f.0 f.1 in (
          f.0,
          f.1,
          subst (Distance m (n / 2) s) at p.0,
          subst (λ r. Earliest m (n / 2) s r (take (n / 2) f.0)) at p.1,
          subst (λ r. Distance m (n - n / 2) r t) at p.2,
          subst (λ r. Earliest m (n - n / 2) r t (drop (n / 2) f.0)) at p.3,
        )

    -- both halves of a fetch of the least length are of the least length
    pub first_half : (n s t : ℕ) → Distance m n s t → Distance m (n / 2) s (halfway m n s t)
    first_half n s t d = (half_parts n s t d).2

    pub second_half : (n s t : ℕ) → Distance m n s t → Distance m (n - n / 2) (halfway m n s t) t
    second_half n s t d = (half_parts n s t d).4

    -- and their lists joined are its list
    pub halves_joined :
        (n s t : ℕ) (os ps : List ℕ) → Distance m n s t
        → earliest m (n / 2) s (halfway m n s t) ≡ Some os → earliest m (n - n / 2) (halfway m n s t) t ≡ Some ps
        → earliest m n s t ≡ Some (os ++ ps)
    halves_joined n s t os ps d a b =
        let h = half_parts n s t d in
        let first = earliest_found m lawful (n / 2) s (halfway m n s t) (take (n / 2) h.0) h.3 in
        let second = earliest_found m lawful (n - n / 2) (halfway m n s t) t (drop (n / 2) h.0) h.5 in
        let front : take (n / 2) h.0 ≡ os = cc in
        let back : drop (n / 2) h.0 ≡ ps = cc in
        h.1 ∙ ap (λ l. Some l) (sym (take-append-drop (n / 2) h.0) ∙ ap₂ (λ x y. x ++ y) front back)

    halved_length : (f n s t : ℕ) (l : Leg) → Distance m n s t → In l (halved m f n s t) → leg_length m l ≡ Some l.bound
    halved_length zero n s t l d i = absurd i
    halved_length (suc f) n s t l d i =
        ⊎_elim
        (λ low. absurd (subst (In l) (halved_none (suc f) n s t low) i))
        (λ two.
        ⊎_elim
        (λ e. subst (λ x. leg_length m x ≡ Some x.bound) e (fetch_length n s t d))
        (λ j. ⊎_elim (λ x. halved_length f (n / 2) s (halfway m n s t) l (first_half n s t d) x) (λ x. halved_length f (n - n / 2) (halfway m n s t) t l (second_half n s t d) x)
        (in_append_cases l (halved m f (n / 2) s (halfway m n s t)) (halved m f (n - n / 2) (halfway m n s t) t) j))
        (subst (In l) (halved_more f n s t two) i))
        (cases_lt n 2)

    pub fetches : Fetches m
    fetches n s t l d i = halved_length n n s t l d i

    pub relays_halfway : Relays m
    relays_halfway n s t r two d i e =
        let g = fetch_leg n s t in
        let q = map_in (λ w. w.at) r (ways m (relays n) g n) (subst (In r) (sym (ways_at m (relays n) g n)) i) in
        let first = way_earliest m (relays n) (relays_tell n) g lawful n (omega arith) d.1 q.0 q.1 (ap (λ x. x.setting) q.2 ∙ e) in
        let found = earliest_found m lawful n s t (reverse q.0.ops) first in
        let passed = relay_part_way m n g two n q.0 q.1 (omega arith) in
        ap (λ x. x.relay) (sym q.2)
        ∙ sym (after_leads m (take (n / 2) (reverse q.0.ops)) s q.0.at.relay passed) ∙ halfway_after n s t (reverse q.0.ops) found

    -- a list of no operation, and of one: the lowest that steps there
    pub earliest_zero : (s : ℕ) → earliest m 0 s s ≡ Some []
    earliest_zero s = earliest_found m lawful 0 s s [] (record { leads = refl; long = refl; before_all = λ ps l h. inl (sym (nil_from_length ps l)) })

    pub earliest_one : (s o t : ℕ) → Steps m s o t → ((p : ℕ) → p < o → Steps m s p t → ⊥) → earliest m 1 s t ≡ Some (o ∷ [])
    earliest_one s o t h lowest = earliest_found m lawful 1 s t (o ∷ []) (record { leads = (t, h, refl); long = refl; before_all = before })
      where
        before : (ps : List ℕ) → length ps ≡ 1 → Leads m s ps t → (o ∷ [] ≡ ps) ⊎ Earlier (o ∷ []) ps
        before [] l x = absurd (omega arith)
        before (p ∷ []) l x =
            ⊎_elim (λ e. inl (ap (λ y. y ∷ []) e))
            (⊎_elim (λ lower. inr (inl lower)) (λ higher. absurd (lowest p higher (subst (Steps m s p) x.2 x.1))))
            (cases_order o p)
        before (p ∷ (q ∷ ps)) l x = absurd (omega arith)
