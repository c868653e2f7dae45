-- A pair of lawful plants is lawful, also where it is too large. Assumes nothing.
use Rattle.std.specs.Prelude.{◌≡◌, ℕ, ◌+◌, ◌-◌, ◌*◌, ◌≤◌, true, false, List, length, None, refl}
use Rattle.std.proofs.Common.{sym, ap, subst, ◌∙◌, ⊎_elim, mul-le-mul, arith}
use Rattle.std.proofs.lemmas.Bool.{cases_Bool, cases_lt, cond-true, cond-false}
use Rattle.std.proofs.lemmas.Bool.Decides.{nat_tests}
use Rattle.plant.specs.Meaning.{Meaning, Steps, Leads}
use Rattle.plant.specs.Laws.{Lawful}
use Rattle.pair.specs.Meaning.{too_large, first_part, second_part, second_moves, pair_step, pair_reverse, pair_estimate, beside, alone, pair}
use Rattle.pair.specs.Moves.{FirstMoves, SecondMoves, beside_moves, first_moves_beside, second_moves_beside, step_of_second, step_past}
use Rattle.pair.specs.Fits.{settings_fit, operations_fit}
use Rattle.pair.specs.Lists.{shared}
use Rattle.pair.specs.Reverses.{reverse_of_first, reverse_of_second, second_place, beside_reverse_within, beside_reverse_past, beside_reverse_twice}

-- no step past the operations of both
operation_past : (a b : Meaning) (s o : ℕ) → Lawful a → Lawful b → a.operations + b.operations ≤ o → pair_step a b s o ≡ None
operation_past a b s o la lb h =
    ⊎_elim
    (λ l. step_of_second a b s o l (omega arith)
    ∙ ap (second_moves a.settings (first_part a.settings s)) (lb.operation_past _ (o - a.operations) (omega arith)))
    (λ l. step_past a b s o l)
    (cases_lt s (a.settings * b.settings))

-- a step leads back
first_back : (a b : Meaning) (s o t : ℕ) → Lawful a → FirstMoves a b s o t → Steps (beside a b) t (pair_reverse a b o) s
first_back a b s o t la m =
    let At : ℕ → Type 0 = λ r. Steps (beside a b) t r s in
    subst At (sym (reverse_of_first a b o m.operation_in))
    (first_moves_beside a b t (a.reverse o) s record {
      start_in = m.target_in;
      target_in = m.start_in;
      operation_in = la.reverse_within o m.operation_in;
      moves = la.steps_back _ o _ m.moves;
      stays = sym m.stays;
    })

second_back : (a b : Meaning) (s o t : ℕ) → Lawful b → SecondMoves a b s o t → Steps (beside a b) t (pair_reverse a b o) s
second_back a b s o t lb m =
    let p = a.operations in
    let k = b.reverse (o - p) in
    let At : ℕ → Type 0 = λ r. Steps (beside a b) t r s in
    subst At (sym (reverse_of_second a b o m.operation_in))
    (second_moves_beside a b t (p + k) s record {
      start_in = m.target_in;
      target_in = m.start_in;
      operation_in = omega arith;
      moves = ap (b.step (second_part a.settings t)) (second_place p k) ∙ lb.steps_back _ (o - p) _ m.moves;
      stays = sym m.stays;
    })

-- the estimates of the two are at most the lengths of the two lists
estimate_least : (a b : Meaning) → Lawful a → Lawful b → (os : List ℕ) (s t : ℕ) → Leads (beside a b) s os t → pair_estimate a b s t ≤ length os
estimate_least a b la lb os s t leads =
    let lists = shared a b la lb os s t leads in
    let one = la.estimate_least lists.firsts _ _ lists.first_leads in
    let other = lb.estimate_least lists.seconds _ _ lists.second_leads in
    let whole = lists.lengths in
    grind (arith, nat_tests)

pub beside_lawful : (a b : Meaning) → Lawful a → Lawful b → too_large a b ≡ false → Lawful (beside a b)
beside_lawful a b la lb fits = record {
  settings_some = mul-le-mul la.settings_some lb.settings_some;
  settings_most = settings_fit a b fits;
  operations_most = operations_fit a b fits;
  estimate_most = λ s t. grind (arith, nat_tests);
  step_within = λ s o t steps. ⊎_elim (λ m. m.target_in) (λ m. m.target_in) (beside_moves a b s o t la lb steps);
  reverse_within = beside_reverse_within a b la lb;
  setting_past = step_past a b;
  operation_past = λ s o h. operation_past a b s o la lb h;
  reverse_past = beside_reverse_past a b lb;
  start_past = λ s t h. grind (arith, nat_tests);
  target_past = λ s t h. grind (arith, nat_tests);
  reverse_twice = beside_reverse_twice a b la lb;
  steps_back = λ s o t steps. ⊎_elim (first_back a b s o t la) (second_back a b s o t lb) (beside_moves a b s o t la lb steps);
  estimate_least = estimate_least a b la lb;
}

pub alone_lawful : Lawful alone
alone_lawful = record {
  settings_some = omega arith;
  settings_most = omega arith;
  operations_most = omega arith;
  estimate_most = λ s t. omega arith;
  step_within = λ s o t steps. let z : ◌≡◌ {A = ℕ} 0 1 = cc in absurd (omega arith);
  reverse_within = λ o h. h;
  setting_past = λ s o h. refl;
  operation_past = λ s o h. refl;
  reverse_past = λ o h. refl;
  start_past = λ s t h. refl;
  target_past = λ s t h. refl;
  reverse_twice = λ o. refl;
  steps_back = λ s o t steps. let z : ◌≡◌ {A = ℕ} 0 1 = cc in absurd (omega arith);
  estimate_least = λ os s t leads. omega arith;
}

-- which of the two a pair is
pub pair_alone : (a b : Meaning) → too_large a b ≡ true → pair a b ≡ alone
pair_alone a b e = cond-true (too_large a b) alone (beside a b) e

pub pair_beside : (a b : Meaning) → too_large a b ≡ false → pair a b ≡ beside a b
pair_beside a b e = cond-false (too_large a b) alone (beside a b) e

pub pair_lawful : (a b : Meaning) → Lawful a → Lawful b → Lawful (pair a b)
pair_lawful a b la lb =
    ⊎_elim
    (λ e. subst Lawful (sym (pair_alone a b e)) alone_lawful)
    (λ e. subst Lawful (sym (pair_beside a b e)) (beside_lawful a b la lb e))
    (cases_Bool (too_large a b))
