-- The settings met are distinct and below the plant's number, so there are no more of them. Over any lawful meaning.
use Rattle.std.proofs.Common.{◌≡◌, ℕ, zero, suc, ◌<◌, ◌≤◌, Bool, true, false, cond, [], ◌∷◌, ◌++◌, map, length, sym, refl, ◌∙◌, subst, arith}
use Rattle.std.proofs.lemmas.List.{map-id, length-append, length-map}
use Rattle.std.proofs.lemmas.Bool.{both_ways}
use Rattle.plant.specs.Meaning.{Meaning}
use Rattle.plant.specs.Laws.{Lawful}
use Rattle.legs.specs.Kinds.{plain}
use Rattle.legs.specs.Layers.{Leg, has, fits, arrivals, grown, settings}
use Rattle.legs.specs.Legs.{sizes}
use Rattle.legs.specs.Laws.{Holds, Distinct}
use Rattle.legs.proofs.Layers.{layer_first, layer_next, met_layer}
use Rattle.legs.proofs.Distinct.{distinct_append, distinct_kept, pigeonhole}

module _ (m : Meaning) (g : Leg) where
  pub layer_distinct : (d : ℕ) → Distinct (settings m g d)
  layer_distinct zero = begun (fits m g 0 g.start)
    where
      begun : (b : Bool) → Distinct (cond b (g.start ∷ []) [])
      begun true = (refl, tt)
      begun false = tt
  layer_distinct (suc d) = distinct_kept (fits m g (suc d)) (grown m plain g d).met (arrivals m plain (suc d) (settings m g d))

  met_distinct : (d : ℕ) → Distinct (grown m plain g d).met
  met_distinct zero = subst Distinct (sym (map-id (settings m g zero))) (layer_distinct zero)
  met_distinct (suc d) =
      subst (λ l. Distinct (l ++ (grown m plain g d).met)) (sym (map-id (settings m g (suc d))))
      (distinct_append (settings m g (suc d)) (grown m plain g d).met (layer_distinct (suc d)) (met_distinct d)
      (λ u h t. both_ways (has (grown m plain g d).met u) (layer_next m g d u h).1 t))

  met_length : (d : ℕ) → length (grown m plain g d).met ≡ sizes m g (suc d)
  met_length zero = omega (arith, length-map (settings m g zero) (λ u. u))
  met_length (suc d) =
      length-append (map (λ u. u) (settings m g (suc d))) (grown m plain g d).met
      ∙ omega (arith, length-map (settings m g (suc d)) (λ u. u), met_length d)

  module _ (lawful : Lawful m) (start-below : g.start < m.settings) where
    pub layer_below : (d u : ℕ) → Holds m g d u → u < m.settings
    layer_below zero u h = subst (λ s. s < m.settings) (layer_first m g u h).0 start-below
    layer_below (suc d) u h = let b = (layer_next m g d u h).0 in lawful.step_within b.0 b.1 u b.3

    pub few : (d : ℕ) → sizes m g d ≤ m.settings
    few zero = omega arith
    few (suc d) =
        subst (λ n. n ≤ m.settings) (met_length d)
        (pigeonhole m.settings (grown m plain g d).met (met_distinct d) (λ u h. let r = met_layer m g d u h in layer_below r.0 u r.2))
