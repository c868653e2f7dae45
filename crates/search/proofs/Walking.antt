-- A leg walked layer by layer ends where it is defined to end, having expanded and used what it is defined to expand and
-- need. Over any lawful meaning.
use Rattle.std.proofs.Common.{◌≡◌, ℕ, suc, ◌+◌, ◌<◌, ◌≤◌, max, true, false, ◌||◌, eqb, List, [], ◌∷◌, ◌++◌, map, length, take, drop, Some, None, Option, sym, refl, ap, ◌∙◌, subst, ⊎_elim, arith}
use Rattle.std.proofs.lemmas.List.{append-nil, take_at, take-take, drop_at, drop-take}
use Rattle.std.proofs.lemmas.Bool.{cases_lt, or_parts, eqb-false, ne_eqb}
use Rattle.plant.specs.Meaning.{Meaning}
use Rattle.plant.specs.Laws.{Lawful}
use Rattle.legs.specs.Kinds.{Kind, Tells}
use Rattle.legs.specs.Layers.{Leg, has, In, layer, layer_before, settings}
use Rattle.legs.specs.Legs.{empty, ends, end, room, need}
use Rattle.legs.proofs.Tells.{layer_settings}
use Rattle.legs.proofs.Ends.{end_is, below_end}
use Rattle.legs.proofs.Need.{layer_size, room_layers, need_room}
use Rattle.search.specs.Stored.{Store, count, standing, present_records, Kept, Advanced}
use Rattle.search.specs.Stands.{Stands}
use Rattle.search.specs.Walked.{over, Walked, Hit, AtEnd}
use Rattle.search.proofs.Turns.{drop_further}

empty_by_length : (us : List ℕ) → empty us ≡ eqb (length us) 0
empty_by_length [] = refl
empty_by_length (u ∷ us) = sym (ne_eqb (suc (length us)) 0 (λ e. omega arith))

module _ {R : Type 0} (m : Meaning) (lawful : Lawful m) (k : Kind R) (t : Tells k) (g : Leg) where
  -- the present layer stands behind the one before
  pub present_layer : (d : ℕ) (nexts : List R) (s : Store R) → Stands m k g d nexts s → present_records s ≡ layer m k g d
  present_layer d nexts s a =
      let behind : drop s.before (standing s) ≡ layer m k g d ++ nexts = ap (drop s.before) a.layers ∙ drop_at (layer_before m k g d) (layer m k g d ++ nexts) s.before (sym a.befores) in
      let cut : take (s.present + s.next) (drop s.before s.room) ≡ layer m k g d ++ nexts =
      sym (drop-take s.before (s.present + s.next) s.room) ∙ ap (λ n. drop s.before (take n s.room)) (omega arith) ∙ behind in
      front_of s.present s.next (drop s.before s.room) nexts a.presents cut
    where
      front_of : (p n : ℕ) (xs nexts : List R) → p ≡ length (layer m k g d) → take (p + n) xs ≡ layer m k g d ++ nexts → take p xs ≡ layer m k g d
      front_of p n xs nexts is e =
          sym (take-take p (p + n) xs (omega arith)) ∙ ap (take p) e ∙ take_at (layer m k g d) nexts p (sym is)

  -- so what the store tells of the end is what the leg's definition tells
  pub over_ends : (d : ℕ) (s : Store R) → Stands m k g d [] s → over k.setting s g d ≡ ends m g d
  over_ends d s a =
      let same : map k.setting (present_records s) ≡ settings m g d = ap (map k.setting) (present_layer d [] s a) ∙ layer_settings m k t g d in
      let none : eqb s.present 0 ≡ empty (settings m g d) = ap (λ n. eqb n 0) (a.presents ∙ layer_size m g k t d) ∙ sym (empty_by_length (settings m g d)) in
      ap (λ us. has us g.target || (eqb s.present 0 || eqb d g.bound)) same
      ∙ ap (λ b. has (settings m g d) g.target || (b || eqb d g.bound)) none

  -- the layers one place nearer to the front are those of the next depth
  advance_stands : (d : ℕ) (s s' : Store R) → Stands m k g d (layer m k g (suc d)) s → Advanced s s' → Stands m k g (suc d) [] s'
  advance_stands d s s' a b =
      record {
        layers =
            b.left ∙ ap (drop s.before) a.layers ∙ drop_at (layer_before m k g d) (layer m k g d ++ layer m k g (suc d)) s.before (sym a.befores)
            ∙ ap (λ xs. layer m k g d ++ xs) (sym (append-nil (layer m k g (suc d))));
        befores = b.befores ∙ a.presents;
        presents = b.presents ∙ a.nexts_are;
        nexts_are = b.nexts;
      }

  -- while the layer at depth d is expanded, what stands in the end is the room of that depth
  count_room : (d : ℕ) (s : Store R) → Stands m k g d (layer m k g (suc d)) s → count s ≡ room m g d
  count_room d s a = omega (arith, a.befores, a.presents, a.nexts_are, room_layers m g k t d)

  -- a leg that does not end at its depth is not at the bound
  pub below_bound : (d : ℕ) → d ≤ g.bound → ends m g d ≡ false → d < g.bound
  below_bound d within going =
      let rest = (or_parts (has (settings m g d) g.target) (empty (settings m g d) || eqb d g.bound) going).1 in
      let not-bound = eqb-false d g.bound (or_parts (empty (settings m g d)) (eqb d g.bound) rest).1 in
      omega (arith, not-bound)

  -- one layer more
  pub walked_on :
      (s₀ s s₁ s₂ : Store R) (d number used : ℕ) → Walked m k g s₀ s d number used → ends m g d ≡ false → count s₁ ≤ length s₁.room
      → Kept s s₁ → Stands m k g d (layer m k g (suc d)) s₁ → Advanced s₁ s₂
      → Walked m k g s₀ s₂ (suc d) (number + s₁.present) (max used (count s₁))
  walked_on s₀ s s₁ s₂ d number used w going inside kept stands gone =
      let standing-now = count_room d s₁ stands in
      let low : used ≤ max used (count s₁) = omega arith in
      let high : count s₁ ≤ max used (count s₁) = omega arith in
      record {
        long = gone.long ∙ kept.long ∙ w.long;
        stands = advance_stands d s₁ s₂ stands gone;
        within = below_bound d w.within going;
        open_so_far = λ i h. ⊎_elim (λ l. w.open_so_far i l) (λ l. let e : i ≡ d = omega arith in ap (ends m g) e ∙ going) (cases_lt i d);
        counted = omega (arith, w.counted, kept.presents, w.stands.presents, layer_size m g k t d);
        used_is = omega (arith, w.used_is, standing-now);
        used_fits = omega (arith, w.used_fits, inside, kept.long, w.long);
        behind =
            drop_further (count s₁) (max used (count s₁)) s₂.room s₁.room high gone.behind
            ∙ drop_further (count s₁) (max used (count s₁)) s₁.room s.room high kept.behind
            ∙ drop_further used (max used (count s₁)) s.room s₀.room low w.behind;
      }

  -- a leg that is not over at its depth goes below its end
  still_below : (s₀ s : Store R) (d number used : ℕ) → Walked m k g s₀ s d number used → ends m g d ≡ false → d < end m g
  still_below s₀ s d number used w going =
      below_end m g d (λ i h. ⊎_elim (λ l. w.open_so_far i l) (λ l. let e : i ≡ d = omega arith in ap (ends m g) e ∙ going) (cases_lt i d))

  pub too_short : (s₀ s : Store R) (d number used : ℕ) → Walked m k g s₀ s d number used → ends m g d ≡ false → length s.room < room m g d → length s₀.room < need m g
  too_short s₀ s d number used w going few = omega (arith, few, w.long, need_room m g d (still_below s₀ s d number used w going))

  pub walked_to_end : (s₀ s : Store R) (d number used : ℕ) → Walked m k g s₀ s d number used → ends m g d ≡ true → d ≡ end m g
  walked_to_end s₀ s d number used w over-now = sym (end_is m g d over-now w.open_so_far)

  -- and where the first layer stands it begins
  pub walked_first : (s : Store R) → 1 ≤ length s.room → Stands m k g 0 [] s → Walked m k g s s 0 0 1
  walked_first s some a =
      record {
        long = refl;
        stands = a;
        within = omega arith;
        open_so_far = λ i h. absurd (omega arith);
        counted = refl;
        used_is = refl;
        used_fits = some;
        behind = refl;
      }

  -- what is found in the present layer of a leg that has ended is found at its end
  pub hit_at_end : (d : ℕ) (nexts : List R) (s : Store R) (r : Option R) → Stands m k g d nexts s → d ≡ end m g → Hit k.setting (present_records s) g.target r → AtEnd m k g r
  hit_at_end d nexts s (Some r) a e h =
      (subst (λ n. In r (layer m k g n)) e (subst (λ xs. In r xs) (present_layer d nexts s a) h.0), h.1)
  hit_at_end d nexts s None a e h =
      ap (λ n. has (settings m g n) g.target) (sym e) ∙ ap (λ us. has us g.target) (sym (ap (map k.setting) (present_layer d nexts s a) ∙ layer_settings m k t g d)) ∙ h

-- the same list, seen from a place on
pub same_behind : {X : Type 0} (xs ys zs : List X) (n : ℕ) → xs ≡ ys → drop n ys ≡ drop n zs → drop n xs ≡ drop n zs
same_behind xs ys zs n e h = ap (drop n) e ∙ h
