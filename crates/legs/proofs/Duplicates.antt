-- A store that keeps the layer before, the present one and the next as far as it is filled finds every duplicate. Over any lawful meaning.
use Rattle.std.proofs.Common.{◌≡◌, ℕ, zero, suc, true, ◌||◌, List, ◌++◌, map, sym, refl, ap, ◌∙◌, subst, ap₂, ⊎_elim, arith}
use mathlib.Core.Bool.{or_assoc}
use Rattle.std.proofs.lemmas.List.{map-append}
use Rattle.std.proofs.lemmas.Bool.Decides.{same_from_decides}
use Rattle.std.proofs.lemmas.Bool.{or_cases, or_left, or_right}
use Rattle.plant.specs.Meaning.{Meaning, Steps}
use Rattle.plant.specs.Laws.{Lawful}
use Rattle.legs.specs.Kinds.{Kind, plain, Tells}
use Rattle.legs.specs.Layers.{Leg, has, grown, layer, settings, layer_before, In}
use Rattle.legs.specs.Laws.{Holds, Beside}
use Rattle.legs.proofs.Members.{has_append}
use Rattle.legs.proofs.Tells.{layer_settings, met_settings, in_layer}
use Rattle.legs.proofs.Layers.{met_by, met_layer, layer_met, near}

module _ (m : Meaning) (g : Leg) (lawful : Lawful m) where
  -- what is one step from layer d is met exactly where that layer or the one before holds it
  pub met_near : (d u : ℕ) → Beside m g d u → met_by m g d u ≡ (has (layer_before m plain g d) u || has (settings m g d) u)
  met_near d u b = same_from_decides _ _ (forth d b, back d) (λ e. e, λ e. e)
    where
      forth : (d : ℕ) → Beside m g d u → met_by m g d u ≡ true → (has (layer_before m plain g d) u || has (settings m g d) u) ≡ true
      forth zero b t = let r = met_layer m g zero u t in let e : r.0 ≡ zero = omega (arith, r.1) in subst (λ i. Holds m g i u) e r.2
      forth (suc d) b t =
          let r = met_layer m g (suc d) u t in
          ⊎_elim
          (λ e. or_right (has (settings m g d) u) _ (subst (λ i. Holds m g i u) e r.2))
          (λ e. let e' : r.0 ≡ d = omega (arith, e) in or_left _ (has (settings m g (suc d)) u) (subst (λ i. Holds m g i u) e' r.2))
          (near m g lawful (suc d) r.0 u b r.2 r.1)

      back : (d : ℕ) → (has (layer_before m plain g d) u || has (settings m g d) u) ≡ true → met_by m g d u ≡ true
      back zero t = layer_met m g zero zero u (omega arith) t
      back (suc d) t =
          ⊎_elim (λ h. layer_met m g (suc d) d u (omega arith) h) (λ h. layer_met m g (suc d) (suc d) u (omega arith) h)
          (or_cases (has (settings m g d) u) (has (settings m g (suc d)) u) t)

  module _ {R : Type 0} (k : Kind R) (t : Tells k) where
    before_settings : (d : ℕ) → map k.setting (layer_before m k g d) ≡ layer_before m plain g d
    before_settings zero = refl
    before_settings (suc d) = layer_settings m k t g d

    -- u, one step from a record of layer d, is met or among the next ones exactly where the three layers have it
    pub three_layers :
        (d : ℕ) (r : R) (o u : ℕ) (nexts : List R) → In r (layer m k g d) → Steps m (k.setting r) o u
        → (has (grown m k g d).met u || has (map k.setting nexts) u)
        ≡ (has (map k.setting (layer_before m k g d)) u || (has (map k.setting (layer m k g d)) u || has (map k.setting nexts) u))
    three_layers d r o u nexts i s =
        ap (λ l. has l u || has (map k.setting nexts) u) (met_settings m k t g d)
        ∙ ap (λ b. b || has (map k.setting nexts) u) (met_near d u (k.setting r, o, in_layer m k t g d r i, s))
        ∙ ap₂ (λ b l. (has b u || has l u) || has (map k.setting nexts) u) (sym (before_settings d)) (sym (layer_settings m k t g d))
        ∙ or_assoc (has (map k.setting (layer_before m k g d)) u) (has (map k.setting (layer m k g d)) u) (has (map k.setting nexts) u)

    -- the same, of the three layers as they stand one behind the other
    pub three_layers_joined :
        (d : ℕ) (r : R) (o u : ℕ) (nexts : List R) → In r (layer m k g d) → Steps m (k.setting r) o u
        → has (map k.setting (layer_before m k g d ++ (layer m k g d ++ nexts))) u
        ≡ (has (grown m k g d).met u || has (map k.setting nexts) u)
    three_layers_joined d r o u nexts i s =
        ap (λ l. has l u) (map-append k.setting (layer_before m k g d) (layer m k g d ++ nexts))
        ∙ has_append (map k.setting (layer_before m k g d)) (map k.setting (layer m k g d ++ nexts)) u
        ∙ ap (λ b. has (map k.setting (layer_before m k g d)) u || b)
        (ap (λ l. has l u) (map-append k.setting (layer m k g d) nexts) ∙ has_append (map k.setting (layer m k g d)) (map k.setting nexts) u)
        ∙ sym (three_layers d r o u nexts i s)
