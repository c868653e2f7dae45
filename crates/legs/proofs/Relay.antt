-- At the target a record has come by the earliest list, and its relay is the setting half way along it. Over any lawful meaning.
use Rattle.std.proofs.Common.{◌≡◌, ℕ, zero, suc, ◌-◌, ◌/◌, ◌≤◌, Bool, true, false, cond, eqb, ◌⊎◌, List, [], ◌∷◌, ◌++◌, reverse, length, take, drop, sym, refl, ap, ◌∙◌, subst, inl, inr, ⊎_elim, arith}
use Rattle.std.proofs.lemmas.List.{length-reverse, length-drop, reverse-reverse, reverse-append, take-append-drop, take_at}
use Rattle.std.proofs.lemmas.Bool.{cases_lt, eq-eqb, ne_eqb, cond-true, cond-false}
use Rattle.plant.specs.Meaning.{Meaning, Steps, Leads}
use Rattle.plant.specs.Laws.{Lawful}
use Rattle.legs.specs.Kinds.{Kind, Tells}
use Rattle.legs.specs.Layers.{Leg, has, fits, grown, layer, In}
use Rattle.legs.specs.Laws.{Holds, ReachedIn}
use Rattle.legs.specs.Lists.{Earlier, Earliest}
use Rattle.legs.specs.declared.relayed.Relayed.{Relayed}
use Rattle.legs.specs.Relays.{relays}
use Rattle.legs.proofs.Members.{has_told, in_map, map_in}
use Rattle.legs.proofs.Tells.{layer_settings, in_layer}
use Rattle.legs.proofs.Kept.{kept_in}
use Rattle.legs.proofs.Earlier.{Upto, upto_then, upto_more, before_earlier}
use Rattle.legs.proofs.Ways.{Way, way_kind, way_onward, way_arrivals, ways, OneOn, ways_at, in_arrivals, arrivals_in}
use Rattle.legs.proofs.Order.{ways_earliest}
use Rattle.legs.proofs.Through.{Through, through_holds, through_leads, shortest_through}

module _ {R : Type 0} (m : Meaning) (k : Kind R) (t : Tells k) (g : Leg) where
  first_way : (w : Way R) → In w (ways m k g zero) → record { at = k.begin g.start; ops = [] } ≡ w
  first_way w i = begun (fits m g 0 g.start) i
    where
      begun : (b : Bool) → In w (cond b (record { at = k.begin g.start; ops = [] } ∷ []) []) → record { at = k.begin g.start; ops = [] } ≡ w
      begun true (inl e) = e
      begun true (inr l) = absurd l
      begun false l = absurd l

  pub way_holds : (d : ℕ) (w : Way R) → In w (ways m k g d) → Holds m g d (k.setting w.at)
  way_holds d w i = in_layer m k t g d w.at (subst (In w.at) (ways_at m k g d) (in_map (λ v. v.at) w (ways m k g d) i))

  -- the way before, and the step from it
  way_before : (d : ℕ) (w : Way R) → In w (ways m k g (suc d)) → (v : Way R) × In v (ways m k g d) × OneOn m k (suc d) v w
  way_before d w i =
      let arrived = way_arrivals m k (suc d) (ways m k g d) in
      in_arrivals m k (suc d) (ways m k g d) w (kept_in (way_kind m k) (fits m g (suc d)) (grown m k g d).met arrived w i)

  pub way_through : (d : ℕ) (w : Way R) → In w (ways m k g d) → Through m g w.ops (k.setting w.at) × (length w.ops ≡ d)
  way_through zero w i = subst (λ v. Through m g v.ops (k.setting w.at) × (length v.ops ≡ zero)) (first_way w i) (way_holds zero w i, refl)
  way_through (suc d) w i =
      let r = way_before d w i in
      let h = way_through d r.0 r.1 in
      let at : k.setting w.at ≡ r.2.1 = ap (λ v. k.setting v.at) (sym r.2.3) ∙ t.arrives (suc d) r.0.at r.2.1 in
      let long : suc d ≡ suc (length r.0.ops) = ap suc (sym h.1) in
      subst (λ l. Through m g l (k.setting w.at) × (length l ≡ suc d)) (ap (λ v. v.ops) r.2.3) (
        (
          k.setting r.0.at,
          h.0,
          subst (Steps m (k.setting r.0.at) r.2.0) (sym at) r.2.2,
          subst (λ n. Holds m g n (k.setting w.at)) long (way_holds (suc d) w i),
        ),
        ap suc h.1,
      )

  module _ (lawful : Lawful m) where
    -- a way came by the earliest list through the layers
    pub way_least : (ps : List ℕ) (w : Way R) → In w (ways m k g (length ps)) → Through m g ps (k.setting w.at) → Upto w.ops ps
    way_least [] w i h = inl (ap (λ v. v.ops) (sym (first_way w i)))
    way_least (p ∷ ps) w i h =
        let v = h.0 in
        let r = has_told k.setting (layer m k g (length ps)) v (ap (λ l. has l v) (layer_settings m k t g (length ps)) ∙ through_holds m g ps v h.1) in
        let q = map_in (λ x. x.at) r.0 (ways m k g (length ps)) (subst (In r.0) (sym (ways_at m k g (length ps))) r.1) in
        let at : v ≡ k.setting q.0.at = sym (ap k.setting q.2 ∙ r.2) in
        let first = way_least ps q.0 q.1 (subst (Through m g ps) at h.1) in
        let u = k.setting w.at in
        let arrived = arrivals_in m k lawful (suc (length ps)) (ways m k g (length ps)) q.0 p u q.1 (subst (λ x. Steps m x p u) at h.2) in
        let least = ways_earliest m k g (length ps) w (way_onward m k (suc (length ps)) q.0 p u) i arrived (sym (t.arrives (suc (length ps)) q.0.at u)) in
        upto_then w.ops (p ∷ q.0.ops) (p ∷ ps) least (upto_more p q.0.ops ps first)

    -- at the target of a leg of length n, outright
    pub way_earliest :
        (n : ℕ) → n ≤ g.bound → ((j : ℕ) → ReachedIn m g j → n ≤ j) → (w : Way R) → In w (ways m k g n) → k.setting w.at ≡ g.target
        → Earliest m n g.start g.target (reverse w.ops)
    way_earliest n within least w i e =
        let h = way_through n w i in
        record {
          leads = subst (Leads m g.start (reverse w.ops)) e (through_leads m g w.ops (k.setting w.at) h.0);
          long = length-reverse w.ops ∙ h.1;
          before_all = before;
        }
      where
        before : (ps : List ℕ) → length ps ≡ n → Leads m g.start ps g.target → (reverse w.ops ≡ ps) ⊎ Earlier (reverse w.ops) ps
        before ps l p =
            let through = shortest_through m g lawful n within least ps l p in
            let long : length (reverse ps) ≡ n = length-reverse ps ∙ l in
            let back = reverse-reverse ps in
            ⊎_elim
            (λ a. inl (ap reverse a ∙ back))
            (λ b. inr (subst (Earlier (reverse w.ops)) back (before_earlier w.ops (reverse ps) b)))
            (way_least (reverse ps) w (subst (λ d. In w (ways m k g d)) (sym long) i) (subst (Through m g (reverse ps)) (sym e) through))

pub relays_tell : (n : ℕ) → Tells (relays n)
relays_tell n = record { begins = λ s. refl; arrives = λ d r u. refl }

module _ (m : Meaning) (n : ℕ) (g : Leg) (two : 2 ≤ n) where
  -- from depth n / 2 on, the relay is the setting after n / 2 operations
  relay_on_way : (d : ℕ) (w : Way Relayed) → In w (ways m (relays n) g d) → n / 2 ≤ d → Leads m g.start (reverse (drop (d - n / 2) w.ops)) w.at.relay
  relay_on_way zero w i l = absurd (omega arith)
  relay_on_way (suc d) w i l =
      let r = way_before m (relays n) (relays_tell n) g d w i in
      let handed : w.at.relay ≡ cond (eqb (suc d) (n / 2)) r.2.1 r.0.at.relay = ap (λ v. v.at.relay) (sym r.2.3) in
      ⊎_elim
      (λ later.
      let same : w.at.relay ≡ r.0.at.relay = handed ∙ cond-false (eqb (suc d) (n / 2)) r.2.1 r.0.at.relay (ne_eqb (suc d) (n / 2) (λ e. omega (arith, e))) in
      let one : suc d - n / 2 ≡ suc (d - n / 2) = omega arith in
      let ops : drop (suc d - n / 2) w.ops ≡ drop (d - n / 2) r.0.ops = ap (λ x. drop x w.ops) one ∙ ap (λ v. drop (suc (d - n / 2)) v.ops) (sym r.2.3) in
      subst (λ x. Leads m g.start (reverse (drop (suc d - n / 2) w.ops)) x) (sym same)
      (subst (λ x. Leads m g.start (reverse x) r.0.at.relay) (sym ops) (relay_on_way d r.0 r.1 (omega arith))))
      (λ here.
      let same : w.at.relay ≡ r.2.1 = handed ∙ cond-true (eqb (suc d) (n / 2)) r.2.1 r.0.at.relay (eq-eqb (suc d) (n / 2) (omega arith)) in
      let none : 0 ≡ suc d - n / 2 = omega arith in
      let at : w.at.setting ≡ r.2.1 = ap (λ v. v.at.setting) (sym r.2.3) in
      let h = way_through m (relays n) (relays_tell n) g (suc d) w i in
      subst (λ x. Leads m g.start (reverse (drop x w.ops)) w.at.relay) none
      (subst (Leads m g.start (reverse w.ops)) (at ∙ sym same) (through_leads m g w.ops w.at.setting h.0)))
      (cases_lt (n / 2) (suc d))

  -- after n / 2 operations of the list that a record came by
  pub relay_part_way : (d : ℕ) (w : Way Relayed) → In w (ways m (relays n) g d) → n / 2 ≤ d → Leads m g.start (take (n / 2) (reverse w.ops)) w.at.relay
  relay_part_way d w i l =
      let h = way_through m (relays n) (relays_tell n) g d w i in
      let parts : reverse w.ops ≡ reverse (drop (d - n / 2) w.ops) ++ reverse (take (d - n / 2) w.ops) =
      ap reverse (sym (take-append-drop (d - n / 2) w.ops)) ∙ reverse-append (take (d - n / 2) w.ops) (drop (d - n / 2) w.ops) in
      let long : length (reverse (drop (d - n / 2) w.ops)) ≡ n / 2 =
      length-reverse (drop (d - n / 2) w.ops) ∙ length-drop (d - n / 2) w.ops ∙ omega (arith, h.1) in
      let front : reverse (drop (d - n / 2) w.ops) ≡ take (n / 2) (reverse w.ops) =
      sym (ap (take (n / 2)) parts ∙ take_at (reverse (drop (d - n / 2) w.ops)) (reverse (take (d - n / 2) w.ops)) (n / 2) long) in
      subst (λ x. Leads m g.start x w.at.relay) front (relay_on_way d w i l)
