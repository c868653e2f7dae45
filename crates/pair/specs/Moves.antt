-- A step of two plants side by side is a step of one of them, while the other stays. Assumes nothing.
use Rattle.std.specs.Prelude.{◌≡◌, ℕ, ◌-◌, ◌*◌, ◌<◌, ◌≤◌, ◌⊎◌, Some, None, Option, nat_lt, refl}
use Rattle.std.proofs.Common.{sym, ap, subst, ◌∙◌, inl, inr, ⊎_elim, arith}
use Rattle.std.proofs.lemmas.Bool.{cases_lt, lt-ltb, le-ltb, cond-true, cond-false}
use Rattle.plant.specs.Meaning.{Meaning, Steps}
use Rattle.plant.specs.Laws.{Lawful}
use Rattle.pair.specs.Meaning.{first_part, second_part, joined, first_moves, second_moves, pair_step, beside}
use Rattle.pair.specs.Parts.{first_of_joined, second_of_joined, joined_parts, joined_below, first_below, second_below}

pub record FirstMoves (a b : Meaning) (s o t : ℕ) : Type 0 where
  pub start_in : s < a.settings * b.settings
  pub target_in : t < a.settings * b.settings
  pub operation_in : o < a.operations
  pub moves : Steps a (first_part a.settings s) o (first_part a.settings t)
  pub stays : second_part a.settings t ≡ second_part a.settings s

pub record SecondMoves (a b : Meaning) (s o t : ℕ) : Type 0 where
  pub start_in : s < a.settings * b.settings
  pub target_in : t < a.settings * b.settings
  pub operation_in : a.operations ≤ o
  pub moves : Steps b (second_part a.settings s) (o - a.operations) (second_part a.settings t)
  pub stays : first_part a.settings t ≡ first_part a.settings s

-- the step, by where the operation stands
step_of_first : (a b : Meaning) (s o : ℕ) → s < a.settings * b.settings → o < a.operations → pair_step a b s o ≡ first_moves a.settings (second_part a.settings s) (a.step (first_part a.settings s) o)
step_of_first a b s o h l =
    cond-true (nat_lt s (a.settings * b.settings)) _ _ (lt-ltb s (a.settings * b.settings) h)
    ∙ cond-true (nat_lt o a.operations) _ _ (lt-ltb o a.operations l)

pub step_of_second : (a b : Meaning) (s o : ℕ) → s < a.settings * b.settings → a.operations ≤ o → pair_step a b s o ≡ second_moves a.settings (first_part a.settings s) (b.step (second_part a.settings s) (o - a.operations))
step_of_second a b s o h l =
    cond-true (nat_lt s (a.settings * b.settings)) _ _ (lt-ltb s (a.settings * b.settings) h)
    ∙ cond-false (nat_lt o a.operations) _ _ (le-ltb o a.operations l)

pub step_past : (a b : Meaning) (s o : ℕ) → a.settings * b.settings ≤ s → pair_step a b s o ≡ None
step_past a b s o h = cond-false (nat_lt s (a.settings * b.settings)) _ _ (le-ltb s (a.settings * b.settings) h)

-- what moved
first_moved : (n y : ℕ) (o : Option ℕ) (t : ℕ) → first_moves n y o ≡ Some t → (x : ℕ) × (o ≡ Some x) × (t ≡ joined n x y)
first_moved n y (Some x) t e = (x, refl, cc)
first_moved n y None t e = let z : ◌≡◌ {A = ℕ} 0 1 = cc in absurd (omega arith)

second_moved : (n x : ℕ) (o : Option ℕ) (t : ℕ) → second_moves n x o ≡ Some t → (y : ℕ) × (o ≡ Some y) × (t ≡ joined n x y)
second_moved n x (Some y) t e = (y, refl, cc)
second_moved n x None t e = let z : ◌≡◌ {A = ℕ} 0 1 = cc in absurd (omega arith)

by_first : (a b : Meaning) (s o t : ℕ) → Lawful a → s < a.settings * b.settings → o < a.operations → pair_step a b s o ≡ Some t → FirstMoves a b s o t
by_first a b s o t la h l e =
    let n = a.settings in
    let (x, steps, is) = first_moved n (second_part n s) (a.step (first_part n s) o) t (sym (step_of_first a b s o h l) ∙ e) in
    let low = la.step_within (first_part n s) o x steps in
    let At : ℕ → Type 0 = λ t. FirstMoves a b s o t in
    subst At (sym is) record {
      start_in = h;
      target_in = joined_below n b.settings x (second_part n s) low (second_below n b.settings s la.settings_some h);
      operation_in = l;
      moves = steps ∙ ap Some (sym (first_of_joined n x (second_part n s) low));
      stays = second_of_joined n x (second_part n s) low;
    }

by_second : (a b : Meaning) (s o t : ℕ) → Lawful a → Lawful b → s < a.settings * b.settings → a.operations ≤ o → pair_step a b s o ≡ Some t → SecondMoves a b s o t
by_second a b s o t la lb h l e =
    let n = a.settings in
    let (y, steps, is) = second_moved n (first_part n s) (b.step (second_part n s) (o - a.operations)) t (sym (step_of_second a b s o h l) ∙ e) in
    let low = first_below n s la.settings_some in
    let At : ℕ → Type 0 = λ t. SecondMoves a b s o t in
    subst At (sym is) record {
      start_in = h;
      target_in = joined_below n b.settings (first_part n s) y low (lb.step_within (second_part n s) (o - a.operations) y steps);
      operation_in = l;
      moves = steps ∙ ap Some (sym (second_of_joined n (first_part n s) y low));
      stays = first_of_joined n (first_part n s) y low;
    }

pub beside_moves : (a b : Meaning) (s o t : ℕ) → Lawful a → Lawful b → Steps (beside a b) s o t → FirstMoves a b s o t ⊎ SecondMoves a b s o t
beside_moves a b s o t la lb e =
    ⊎_elim
    (λ h. ⊎_elim
    (λ l. inl (by_first a b s o t la h l e))
    (λ l. inr (by_second a b s o t la lb h l e))
    (cases_lt o a.operations))
    (λ h. let none = step_past a b s o h in let z : ◌≡◌ {A = ℕ} 0 1 = cc in absurd (omega arith))
    (cases_lt s (a.settings * b.settings))

pub first_moves_beside : (a b : Meaning) (s o t : ℕ) → FirstMoves a b s o t → Steps (beside a b) s o t
first_moves_beside a b s o t m =
    let n = a.settings in
    step_of_first a b s o m.start_in m.operation_in
    ∙ ap (first_moves n (second_part n s)) m.moves
    ∙ ap (λ y. Some (joined n (first_part n t) y)) (sym m.stays)
    ∙ ap Some (joined_parts n t)

pub second_moves_beside : (a b : Meaning) (s o t : ℕ) → SecondMoves a b s o t → Steps (beside a b) s o t
second_moves_beside a b s o t m =
    let n = a.settings in
    step_of_second a b s o m.start_in m.operation_in
    ∙ ap (second_moves n (first_part n s)) m.moves
    ∙ ap (λ x. Some (joined n x (second_part n t))) (sym m.stays)
    ∙ ap Some (joined_parts n t)
