-- The turns of a search: one operation more fills the next layer as the leg's definition does, and a place is refused
-- exactly where the layers that stand are more than the slice holds. Over any lawful meaning.
use Rattle.std.proofs.Common.{◌≡◌, ℕ, suc, ◌+◌, ◌-◌, ◌<◌, ◌≤◌, true, false, cond, not, ◌||◌, List, [], ◌∷◌, ◌++◌, map, length, get_or, take, drop, Some, None, Option, sym, refl, ap, ◌∙◌, subst, arith}
use Rattle.std.proofs.lemmas.List.{append-nil, append_assoc, length-append, take-append-drop, drop_more, take_more, get_or-append_right, get_or_append_left, get_or-take, drop-drop}
use Rattle.plant.specs.Meaning.{Meaning}
use Rattle.plant.specs.Laws.{Lawful}
use Rattle.legs.specs.Kinds.{Kind, Tells}
use Rattle.legs.specs.Layers.{Leg, has, fits, In, layer, layer_before}
use Rattle.legs.specs.Legs.{room}
use Rattle.legs.specs.Filling.{filled_more}
use Rattle.legs.proofs.Filling.{filled_passes, filled_steps, filled_length}
use Rattle.legs.proofs.Members.{in_getD}
use Rattle.legs.proofs.Need.{room_layers}
use Rattle.search.specs.Stored.{Store, count, standing, Kept}
use Rattle.search.specs.Offered.{arriving, Taken}
use Rattle.search.specs.Stands.{Stands}

-- what is the same from one place on is the same from any later place on
pub drop_further : {X : Type 0} (i j : ℕ) (xs ys : List X) → i ≤ j → drop i xs ≡ drop i ys → drop j xs ≡ drop j ys
drop_further i j xs ys h e =
    let split : i + (j - i) ≡ j = omega arith in
    ap (λ n. drop n xs) (sym split) ∙ sym (drop-drop (j - i) i xs) ∙ ap (drop (j - i)) e ∙ drop-drop (j - i) i ys ∙ ap (λ n. drop n ys) split

-- kept by one step and then another
pub kept_on : {R : Type 0} (s t u : Store R) → Kept s t → Kept t u → Kept s u
kept_on s t u a b =
    record {
      long = b.long ∙ a.long;
      befores = b.befores ∙ a.befores;
      presents = b.presents ∙ a.presents;
      more = omega (arith, a.more, b.more);
      behind = b.behind ∙ drop_further (count t) (count u) t.room s.room b.more a.behind;
    }

module _ {R : Type 0} (m : Meaning) (lawful : Lawful m) (k : Kind R) (t : Tells k) (g : Leg) (d : ℕ) where
  -- records behind those that stand
  stands_more : (s s' : Store R) (nexts rs : List R) → Stands m k g d nexts s → Taken s s' rs true → Stands m k g d (nexts ++ rs) s'
  stands_more s s' nexts rs a b =
      record {
        layers = b.2 ∙ ap (λ x. x ++ rs) a.layers ∙ append_assoc (layer_before m k g d) (layer m k g d ++ nexts) rs ∙ ap (λ x. layer_before m k g d ++ x) (append_assoc (layer m k g d) nexts rs);
        befores = b.0.befores ∙ a.befores;
        presents = b.0.presents ∙ a.presents;
        nexts_are = b.1 ∙ omega (arith, a.nexts_are, length-append nexts rs);
      }

  module _ (rs : List R) (r : R) (here : In r (layer m k g d)) where
    -- what one operation brings to the store is what it brings to the layer
    brings : (s : Store R) (o : ℕ) (step : Option ℕ) → Stands m k g d (filled_more m k g d rs r o) s → m.step (k.setting r) o ≡ step → filled_more m k g d rs r (suc o) ≡ filled_more m k g d rs r o ++ arriving k.setting m g (suc d) (k.onward (suc d) r) s step
    brings s o None a e = filled_passes m k g d rs r o e ∙ sym (append-nil (filled_more m k g d rs r o))
    brings s o (Some u) a e =
        filled_steps m k g d t lawful rs r o u here e
        ∙ ap (λ xs. filled_more m k g d rs r o ++ cond (has (map k.setting xs) u || not (fits m g (suc d) u)) [] (k.onward (suc d) r u ∷ [])) (sym a.layers)

    -- so one operation more is one turn
    pub turn : (s s' : Store R) (o : ℕ) → Stands m k g d (filled_more m k g d rs r o) s → Taken s s' (arriving k.setting m g (suc d) (k.onward (suc d) r) s (m.step (k.setting r) o)) true → Stands m k g d (filled_more m k g d rs r (suc o)) s'
    turn s s' o a b =
        subst (λ xs. Stands m k g d xs s') (sym (brings s o (m.step (k.setting r) o) a refl)) (stands_more s s' (filled_more m k g d rs r o) (arriving k.setting m g (suc d) (k.onward (suc d) r) s (m.step (k.setting r) o)) a b)

    -- and a record without a place is one of the next layer
    pub no_place : (s s' : Store R) (rest : List R) (o : ℕ) → rs ++ (r ∷ rest) ≡ layer m k g d → o < m.operations → Stands m k g d (filled_more m k g d rs r o) s → Taken s s' (arriving k.setting m g (suc d) (k.onward (suc d) r) s (m.step (k.setting r) o)) false → length s.room < room m g d
    no_place s s' rest o split below a b =
        let news = arriving k.setting m g (suc d) (k.onward (suc d) r) s (m.step (k.setting r) o) in
        let more = ap length (brings s o (m.step (k.setting r) o) a refl) ∙ length-append (filled_more m k g d rs r o) news in
        let front = filled_length m k g d rs r rest (suc o) split below in
        let all = room_layers m g k t d in
        omega (arith, more, front, all, b.1, b.2, a.befores, a.presents, a.nexts_are)

  -- the record at a place of the present layer
  module _ (place : ℕ) (s : Store R) (nexts : List R) (r : R) (stands : Stands m k g d nexts s) (below : place < s.present) (within : s.before + s.present + s.next ≤ length s.room) (read : r ≡ get_or s.room (s.before + place) r) where
    inside : place < length (layer m k g d)
    inside = omega (arith, stands.presents, below)

    pub in_place : get_or (layer m k g d) place r ≡ r
    in_place =
        let low : s.before + place < s.before + s.present + s.next = omega arith in
        let front : get_or (standing s) (s.before + place) r ≡ get_or s.room (s.before + place) r = get_or-take (s.before + s.present + s.next) s.room (s.before + place) r low in
        let less : s.before + place - s.before ≡ place = omega arith in
        sym (read ∙ sym front
        ∙ ap (λ xs. get_or xs (s.before + place) r) stands.layers
        ∙ get_or-append_right (layer_before m k g d) (layer m k g d ++ nexts) s.before (s.before + place) r (sym stands.befores) (omega arith)
        ∙ ap (λ i. get_or (layer m k g d ++ nexts) i r) less
        ∙ get_or_append_left (layer m k g d) nexts r place inside)

    pub in_layer : In r (layer m k g d)
    in_layer = subst (λ x. In x (layer m k g d)) in_place (in_getD (layer m k g d) place r inside)

    pub layer_split : take place (layer m k g d) ++ (r ∷ drop (place + 1) (layer m k g d)) ≡ layer m k g d
    layer_split =
        ap (λ xs. take place (layer m k g d) ++ xs) (sym (drop_more (layer m k g d) place r inside ∙ ap (λ x. x ∷ drop (place + 1) (layer m k g d)) in_place))
        ∙ take-append-drop place (layer m k g d)

    pub one_record : take (place + 1) (layer m k g d) ≡ take place (layer m k g d) ++ (r ∷ [])
    one_record = take_more (layer m k g d) place r inside ∙ ap (λ x. take place (layer m k g d) ++ (x ∷ [])) in_place
