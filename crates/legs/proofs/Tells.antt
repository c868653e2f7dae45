-- The settings of the layers are the same for every kind of record that tells its setting. Assumes nothing.
use Rattle.std.proofs.Common.{◌≡◌, ℕ, zero, suc, Bool, true, false, cond, List, [], ◌∷◌, ◌++◌, map, Some, None, Option, sym, refl, ap, ◌∙◌, ap₂}
use Rattle.std.proofs.lemmas.List.{map-append, map-id}
use Rattle.plant.specs.Meaning.{Meaning}
use Rattle.legs.specs.Kinds.{Kind, plain, Tells}
use Rattle.legs.specs.Layers.{Leg, has, fits, arrival, reached, arrivals, kept, grown, layer, settings, In}
use Rattle.legs.specs.Laws.{Holds}
use Rattle.legs.proofs.Members.{told_has}
use Rattle.legs.proofs.Kept.{map_kept}

module _ {R : Type 0} (m : Meaning) (k : Kind R) (t : Tells k) where
  arrival_settings : (d : ℕ) (r : R) (o : Option ℕ) → map k.setting (arrival k d r o) ≡ arrival plain d (k.setting r) o
  arrival_settings d r None = refl
  arrival_settings d r (Some u) = ap (λ s. s ∷ []) (t.arrives d r u)

  pub reached_settings : (d : ℕ) (r : R) (n : ℕ) → map k.setting (reached m k d r n) ≡ reached m plain d (k.setting r) n
  reached_settings d r zero = refl
  reached_settings d r (suc o) =
      map-append k.setting (reached m k d r o) (arrival k d r (m.step (k.setting r) o))
      ∙ ap₂ (λ l n. l ++ n) (reached_settings d r o) (arrival_settings d r (m.step (k.setting r) o))

  pub arrivals_settings : (d : ℕ) (rs : List R) → map k.setting (arrivals m k d rs) ≡ arrivals m plain d (map k.setting rs)
  arrivals_settings d [] = refl
  arrivals_settings d (r ∷ rs) =
      map-append k.setting (reached m k d r m.operations) (arrivals m k d rs)
      ∙ ap₂ (λ l n. l ++ n) (reached_settings d r m.operations) (arrivals_settings d rs)

  first_settings : (b : Bool) (s : ℕ) → map k.setting (cond b (k.begin s ∷ []) []) ≡ cond b (s ∷ []) []
  first_settings true s = ap (λ u. u ∷ []) (t.begins s)
  first_settings false s = refl

  module _ (g : Leg) where
    -- the settings of the layer at depth d are the plain ones, and so are those met
    pub same_layers : (d : ℕ) → (map k.setting (layer m k g d) ≡ settings m g d) × ((grown m k g d).met ≡ (grown m plain g d).met)
    same_layers zero =
        let e = first_settings (fits m g 0 g.start) g.start in
        (e, e ∙ sym (map-id (settings m g zero)))
    same_layers (suc d) =
        let before = same_layers d in
        let e : map k.setting (layer m k g (suc d)) ≡ settings m g (suc d) =
        map_kept k plain k.setting (λ r. refl) (fits m g (suc d)) (grown m k g d).met (arrivals m k (suc d) (layer m k g d))
        ∙ ap₂ (λ met us. kept plain (fits m g (suc d)) met us) before.1 (arrivals_settings (suc d) (layer m k g d) ∙ ap (arrivals m plain (suc d)) before.0) in
        (e, ap₂ (λ l n. l ++ n) (e ∙ sym (map-id (settings m g (suc d)))) before.1)

    pub layer_settings : (d : ℕ) → map k.setting (layer m k g d) ≡ settings m g d
    layer_settings d = (same_layers d).0

    pub met_settings : (d : ℕ) → (grown m k g d).met ≡ (grown m plain g d).met
    met_settings d = (same_layers d).1

    -- a record of layer d stands at a setting of that layer
    pub in_layer : (d : ℕ) (r : R) → In r (layer m k g d) → Holds m g d (k.setting r)
    in_layer d r i = ap (λ l. has l (k.setting r)) (sym (layer_settings d)) ∙ told_has k.setting r (layer m k g d) i
