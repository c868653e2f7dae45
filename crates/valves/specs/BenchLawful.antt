-- A bench made of good data is a lawful plant. Assumes nothing.
use Rattle.std.specs.Prelude.{◌≡◌, ℕ, suc, ◌*◌, ◌/◌, ◌<◌, ◌≤◌, Bool, true, false, cond, ◌&&◌, List, [], ◌∷◌, length, set, Some, None, Option, nat_lt, slice_index, slice_index_or, slice_set, refl}
use Rattle.std.proofs.Common.{sym, ap, ◌∙◌, subst, ⊎_elim, mul-pos, arith}
use Rattle.std.proofs.lemmas.List.{set-set, set-get_or, get_or-set_same}
use Rattle.std.proofs.lemmas.Bool.{cases_lt, and_parts, and_from, and_left, and_right, ltb-true, lt-ltb, le-ltb, cond-true, cond-false, cond_both}
use Rattle.plant.specs.Laws.{Lawful}
use Rattle.plant.proofs.Estimates.{least_from_falls}
use Rattle.valves.specs.declared.interlock.Interlock.{Interlock}
use Rattle.valves.specs.Positions.{product, setting, positions, apart, Within}
use Rattle.valves.specs.Interlocks.{barred}
use Rattle.valves.specs.Bench.{landed, turned, bench_step, bench_reverse, bench_estimate, bench}
use Rattle.valves.specs.Data.{BenchData}
use Rattle.valves.specs.Numbering.{Positive, positions_within, setting_positions, positions_setting, setting_below, within_set, within_length, position_below, weight_all, weight_few}
use Rattle.valves.specs.Moves.{moved, turned_moved, other_way, turned_back, Move, move_back}
use Rattle.valves.specs.Barring.{barred_back}
use Rattle.valves.specs.Differences.{apart_same, apart_most, apart_falls}

pub positive : (ns : List ℕ) → ((v : ℕ) → v < length ns → 2 ≤ slice_index ns v) → Positive ns
positive [] two = tt
positive (n ∷ ns) two = (omega (arith, two 0 (omega arith)), positive ns (λ v h. two (suc v) (omega arith)))

pub product_positive : (ns : List ℕ) → Positive ns → 0 < product ns
product_positive [] pos = omega arith
product_positive (n ∷ ns) pos = mul-pos pos.0 (product_positive ns pos.1)

-- at most 4 to the power of 12 settings
pub settings_few : (ns : List ℕ) → length ns ≤ 12 → ((v : ℕ) → v < length ns → slice_index ns v ≤ 4) → product ns ≤ 16777216
settings_few ns few four = subst (λ x. x ≤ 16777216) (weight_all ns) (weight_few ns (length ns) few four)

-- what a step of a bench is made of
pub record Stepped (ns : List ℕ) (ls : List Interlock) (s o t : ℕ) : Type 0 where
  pub setting_in : s < product ns
  pub operation_in : o < 2 * length ns
  pub to : ℕ
  pub moves : moved o (slice_index ns (o / 2)) (slice_index (positions ns s) (o / 2)) ≡ Some to
  pub free : barred (o / 2) (slice_index (positions ns s) (o / 2)) to (positions ns s) ls ≡ false
  pub lands : t ≡ setting ns (slice_set (positions ns s) (o / 2) to)

some_not_none : {X : Type 0} (t : ℕ) → None ≡ Some t → X
some_not_none t e = let clash : ◌≡◌ {A = ℕ} 0 1 = cc in absurd (omega arith)

landed_some : (ns : List ℕ) (ls : List Interlock) (v : ℕ) (ps : List ℕ) (p t : ℕ) (m : Option ℕ) → landed ns ls v ps p m ≡ Some t → (q : ℕ) × (m ≡ Some q) × (barred v p q ps ls ≡ false) × (t ≡ setting ns (slice_set ps v q))
landed_some ns ls v ps p t None e = some_not_none t e
landed_some ns ls v ps p t (Some q) e = by_test (barred v p q ps ls) refl e
  where
    by_test : (b : Bool) → barred v p q ps ls ≡ b → cond b None (Some (setting ns (slice_set ps v q))) ≡ Some t → (r : ℕ) × (Some q ≡ Some r) × (barred v p r ps ls ≡ false) × (t ≡ setting ns (slice_set ps v r))
    by_test true f h = some_not_none t h
    by_test false f h = (q, refl, f, cc)

pub stepped : (ns : List ℕ) (ls : List Interlock) (s o t : ℕ) → bench_step ns ls s o ≡ Some t → Stepped ns ls s o t
stepped ns ls s o t e = by_range (nat_lt s (product ns) && nat_lt o (2 * length ns)) refl e
  where
    by_range : (b : Bool) → (nat_lt s (product ns) && nat_lt o (2 * length ns)) ≡ b → cond b (turned ns ls (positions ns s) o) None ≡ Some t → Stepped ns ls s o t
    by_range true f h =
        let range = and_parts _ _ f in
        let found = landed_some ns ls (o / 2) (positions ns s) (slice_index (positions ns s) (o / 2)) t _ (sym (turned_moved ns ls (positions ns s) o) ∙ h) in
        record {
          setting_in = ltb-true _ _ range.0;
          operation_in = ltb-true _ _ range.1;
          to = found.0;
          moves = found.1;
          free = found.2;
          lands = found.3;
        }
    by_range false f h = some_not_none t h

-- and a step is made of that
pub step_from : (ns : List ℕ) (ls : List Interlock) (s o t : ℕ) → Stepped ns ls s o t → bench_step ns ls s o ≡ Some t
step_from ns ls s o t k =
    cond-true _ _ _ (and_from _ _ (lt-ltb _ _ k.setting_in) (lt-ltb _ _ k.operation_in))
    ∙ (turned_moved ns ls (positions ns s) o
    ∙ (ap (landed ns ls (o / 2) (positions ns s) (slice_index (positions ns s) (o / 2))) k.moves
    ∙ (cond-false _ _ _ k.free ∙ ap Some (sym k.lands))))

module _ (ns : List ℕ) (ls : List Interlock) (k : BenchData ns ls) where
  has_positions : Positive ns
  has_positions = positive ns k.two

  moves_back : (s o t : ℕ) → Stepped ns ls s o t → Stepped ns ls t (bench_reverse ns o) s
  moves_back s o t h =
      let v : ℕ = o / 2 in
      let ps : List ℕ = positions ns s in
      let p : ℕ = slice_index_or ps v 0 in
      let q : ℕ = h.to in
      let inside : v < length ns = omega (arith, h.operation_in) in
      let w : Within ns ps = positions_within ns s has_positions in
      let there : p < slice_index_or ns v 0 = position_below ns ps v w inside in
      let mv : Move o (slice_index ns v) p q = move_back o (slice_index ns v) p q there h.moves in
      let w' : Within ns (slice_set ps v q) = within_set ns ps v q w mv.within in
      let tp : positions ns t ≡ set ps v q = ap (positions ns) h.lands ∙ positions_setting ns (slice_set ps v q) w' in
      let rev : bench_reverse ns o ≡ other_way o = cond-true _ _ _ (lt-ltb _ _ h.operation_in) in
      let half : bench_reverse ns o / 2 ≡ v = ap (λ x. x / 2) rev ∙ (turned_back o).same_valve in
      let long : v < length ps = subst (λ x. v < x) (sym (within_length ns ps w)) inside in
      let stands : slice_index_or (positions ns t) v 0 ≡ q = ap (λ x. slice_index x v) tp ∙ get_or-set_same ps v q 0 long in
      let restored : set (slice_set ps v q) v p ≡ ps = set-set ps v q p ∙ set-get_or ps v 0 in
      record {
        setting_in = subst (λ x. x < product ns) (sym h.lands) (setting_below ns (slice_set ps v q) w');
        operation_in = subst (λ x. x < 2 * length ns) (sym rev) ((turned_back o).below (length ns) h.operation_in);
        to = p;
        moves = ap (λ x. moved (bench_reverse ns o) (slice_index ns x) (slice_index (positions ns t) x)) half ∙ (ap (moved (bench_reverse ns o) (slice_index ns v)) stands ∙ (ap (λ x. moved x (slice_index ns v) q) rev ∙ mv.back));
        free = ap (λ x. barred x (slice_index (positions ns t) x) p (positions ns t) ls) half ∙ (ap (λ x. barred v x p (positions ns t) ls) stands ∙ (ap (λ x. barred v q p x ls) tp ∙ (sym (barred_back v p q ps ls (λ r d b. (k.ranged r d b).different)) ∙ h.free)));
        lands = sym (setting_positions ns s has_positions h.setting_in) ∙ ap (setting ns) (sym (ap (λ x. set (positions ns t) x p) half ∙ (ap (λ x. set x v p) tp ∙ restored)));
      }

  estimate_zero : (s : ℕ) → bench_estimate ns s s ≡ 0
  estimate_zero s = cond_both (nat_lt s (product ns) && nat_lt s (product ns)) (apart (positions ns s) (positions ns s)) 0 (λ x. x ≡ 0) (λ e. apart_same (positions ns s)) (λ e. refl)

  estimate_in : (s t : ℕ) → s < product ns → t < product ns → bench_estimate ns s t ≡ apart (positions ns s) (positions ns t)
  estimate_in s t a b = cond-true _ _ _ (and_from _ _ (lt-ltb _ _ a) (lt-ltb _ _ b))

  estimate_falls : (s o u t : ℕ) → Stepped ns ls s o u → bench_estimate ns s t ≤ suc (bench_estimate ns u t)
  estimate_falls s o u t h = ⊎_elim inside outside (cases_lt t (product ns))
    where
      ps : List ℕ
      ps = positions ns s

      w : Within ns ps
      w = positions_within ns s has_positions

      valve_in : o / 2 < length ns
      valve_in = let b = h.operation_in in omega arith

      mv : Move o (slice_index ns (o / 2)) (slice_index ps (o / 2)) h.to
      mv = move_back o (slice_index ns (o / 2)) (slice_index ps (o / 2)) h.to (position_below ns ps (o / 2) w valve_in) h.moves

      w' : Within ns (slice_set ps (o / 2) h.to)
      w' = within_set ns ps (o / 2) h.to w mv.within

      u_in : u < product ns
      u_in = subst (λ x. x < product ns) (sym h.lands) (setting_below ns (slice_set ps (o / 2) h.to) w')

      up : positions ns u ≡ slice_set ps (o / 2) h.to
      up = ap (positions ns) h.lands ∙ positions_setting ns (slice_set ps (o / 2) h.to) w'

      inside : t < product ns → bench_estimate ns s t ≤ suc (bench_estimate ns u t)
      inside b =
          let one = apart_falls ps (positions ns t) (o / 2) h.to mv.not_above mv.not_below in
          let here = estimate_in s t h.setting_in b in
          let there = estimate_in u t u_in b ∙ ap (λ x. apart x (positions ns t)) up in
          omega (arith, one, here, there)

      outside : product ns ≤ t → bench_estimate ns s t ≤ suc (bench_estimate ns u t)
      outside b =
          let past = and_right (nat_lt s (product ns)) (nat_lt t (product ns)) (le-ltb t (product ns) b) in
          let none : bench_estimate ns s t ≡ 0 = cond-false (nat_lt s (product ns) && nat_lt t (product ns)) (apart ps (positions ns t)) 0 past in
          omega arith

  estimate_few : (s t : ℕ) → bench_estimate ns s t ≤ 65535
  estimate_few s t =
      let most = apart_most ns (positions ns s) (positions ns t) k.four (positions_within ns s has_positions) (positions_within ns t has_positions) in
      cond_both (nat_lt s (product ns) && nat_lt t (product ns)) (apart (positions ns s) (positions ns t)) 0 (λ x. x ≤ 65535) (λ e. omega (arith, k.valves_most)) (λ e. omega arith)

  reverse_again : (o : ℕ) → bench_reverse ns (bench_reverse ns o) ≡ o
  reverse_again o = ⊎_elim inside outside (cases_lt o (2 * length ns))
    where
      inside : o < 2 * length ns → bench_reverse ns (bench_reverse ns o) ≡ o
      inside b =
          let rev : bench_reverse ns o ≡ other_way o = cond-true _ _ _ (lt-ltb _ _ b) in
          ap (bench_reverse ns) rev ∙ (cond-true _ _ _ (lt-ltb _ _ ((turned_back o).below (length ns) b)) ∙ (turned_back o).back_again)

      outside : 2 * length ns ≤ o → bench_reverse ns (bench_reverse ns o) ≡ o
      outside b = let same : bench_reverse ns o ≡ o = cond-false _ _ _ (le-ltb _ _ b) in ap (bench_reverse ns) same ∙ same

  pub bench_lawful : Lawful (bench ns ls)
  bench_lawful = record {
    settings_some = product_positive ns has_positions;
    settings_most = settings_few ns k.valves_most k.four;
    operations_most = omega (arith, k.valves_most);
    estimate_most = estimate_few;
    step_within = λ s o t h. (moves_back s o t (stepped ns ls s o t h)).setting_in;
    reverse_within = λ o h. subst (λ x. x < 2 * length ns) (sym (cond-true _ _ _ (lt-ltb _ _ h))) ((turned_back o).below (length ns) h);
    setting_past = λ s o h. cond-false _ _ _ (and_left _ _ (le-ltb _ _ h));
    operation_past = λ s o h. cond-false _ _ _ (and_right _ _ (le-ltb _ _ h));
    reverse_past = λ o h. cond-false _ _ _ (le-ltb _ _ h);
    start_past = λ s t h. cond-false _ _ _ (and_left _ _ (le-ltb _ _ h));
    target_past = λ s t h. cond-false _ _ _ (and_right _ _ (le-ltb _ _ h));
    reverse_twice = reverse_again;
    steps_back = λ s o t h. step_from ns ls t (bench_reverse ns o) s (moves_back s o t (stepped ns ls s o t h));
    estimate_least = least_from_falls (bench ns ls) estimate_zero (λ s o u t h. estimate_falls s o u t (stepped ns ls s o u h));
  }
