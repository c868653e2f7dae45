-- One position up and one down undo each other. Assumes nothing.
use Rattle.std.specs.Prelude.{◌≡◌, ℕ, suc, ◌+◌, ◌-◌, ◌*◌, ◌/◌, ◌%◌, ◌<◌, ◌≤◌, Bool, true, false, cond, List, Some, None, Option, ◌==◌, ◌≢◌, slice_index, refl}
use Rattle.std.proofs.Common.{sym, ap, ◌∙◌, ⊎_elim, arith}
use Rattle.std.proofs.lemmas.Bool.{cases_Bool, eqb-true, eqb-false, ltb-true, lt-ltb, eq-eqb, ne_eqb, cond-true, cond-false}
use Rattle.valves.specs.declared.interlock.Interlock.{Interlock}
use Rattle.valves.specs.Bench.{raised, lowered, landed, turned}

-- up by an even operation, down by an odd one
abbrev pub moved : ℕ → ℕ → ℕ → Option ℕ
moved o n p = cond (o % 2 == 0) (raised n p) (lowered p)

landed_of_cond : (ns : List ℕ) (ls : List Interlock) (v : ℕ) (ps : List ℕ) (p : ℕ) (b : Bool) (x y : Option ℕ) → cond b (landed ns ls v ps p x) (landed ns ls v ps p y) ≡ landed ns ls v ps p (cond b x y)
landed_of_cond ns ls v ps p true x y = refl
landed_of_cond ns ls v ps p false x y = refl

-- one move, up or down, of the operation's valve
pub turned_moved : (ns : List ℕ) (ls : List Interlock) (ps : List ℕ) (o : ℕ) → turned ns ls ps o ≡ landed ns ls (o / 2) ps (slice_index ps (o / 2)) (moved o (slice_index ns (o / 2)) (slice_index ps (o / 2)))
turned_moved ns ls ps o = landed_of_cond ns ls (o / 2) ps (slice_index ps (o / 2)) (o % 2 == 0) (raised (slice_index ns (o / 2)) (slice_index ps (o / 2))) (lowered (slice_index ps (o / 2)))

-- the operation that moves the same valve the other way
abbrev pub other_way : ℕ → ℕ
other_way o = cond (o % 2 == 0) (o + 1) (o - 1)

pub record Turned (o : ℕ) : Type 0 where
  pub same_valve : other_way o / 2 ≡ o / 2
  pub back_again : other_way (other_way o) ≡ o
  pub below : (k : ℕ) → o < 2 * k → other_way o < 2 * k

turned_even : (o : ℕ) → o % 2 ≡ 0 → Turned o
turned_even o e =
    let to : other_way o ≡ o + 1 = cond-true _ _ _ (eq-eqb (o % 2) 0 e) in
    let odd : (o + 1) % 2 ≡ 0 → ⊥ = λ h. omega arith in
    let from : other_way (o + 1) ≡ o + 1 - 1 = cond-false _ _ _ (ne_eqb ((o + 1) % 2) 0 odd) in
    record {
      same_valve = ap (λ x. x / 2) to ∙ omega arith;
      back_again = ap other_way to ∙ (from ∙ omega arith);
      below = λ k h. omega (arith, to);
    }

turned_odd : (o : ℕ) → (o % 2 ≢ 0) → Turned o
turned_odd o e =
    let one : o % 2 ≡ 1 = omega arith in
    let to : other_way o ≡ o - 1 = cond-false _ _ _ (ne_eqb (o % 2) 0 e) in
    let even : (o - 1) % 2 ≡ 0 = omega arith in
    let from : other_way (o - 1) ≡ o - 1 + 1 = cond-true _ _ _ (eq-eqb ((o - 1) % 2) 0 even) in
    record {
      same_valve = ap (λ x. x / 2) to ∙ omega arith;
      back_again = ap other_way to ∙ (from ∙ omega arith);
      below = λ k h. omega (arith, to);
    }

pub turned_back : (o : ℕ) → Turned o
turned_back o = ⊎_elim (λ e. turned_even o (eqb-true _ _ e)) (λ e. turned_odd o (eqb-false _ _ e)) (cases_Bool (o % 2 == 0))

-- a move from p to q of a valve of n positions
pub record Move (o n p q : ℕ) : Type 0 where
  pub within : q < n
  pub back : moved (other_way o) n q ≡ Some p
  pub not_above : q ≤ suc p
  pub not_below : p ≤ suc q

some_of_cond : (b : Bool) (x y : ℕ) → cond b (Some x) None ≡ Some y → (b ≡ true) × (x ≡ y)
some_of_cond true x y e = (refl, cc)
some_of_cond false x y e = let clash : ◌≡◌ {A = ℕ} 0 1 = cc in absurd (omega arith)

move_up : (o n p q : ℕ) → o % 2 ≡ 0 → moved o n p ≡ Some q → Move o n p q
move_up o n p q even e =
    let up = some_of_cond _ _ _ (sym (cond-true _ _ _ (eq-eqb (o % 2) 0 even)) ∙ e) in
    let fits : p + 1 < n = ltb-true _ _ up.0 in
    let to : other_way o ≡ o + 1 = cond-true _ _ _ (eq-eqb (o % 2) 0 even) in
    let odd : (o + 1) % 2 ≡ 0 → ⊥ = λ h. omega arith in
    let some : 0 < q = omega (arith, up.1) in
    let down : moved (o + 1) n q ≡ Some (q - 1) = cond-false _ _ _ (ne_eqb _ _ odd) ∙ cond-true _ _ _ (lt-ltb 0 q some) in
    let was : q - 1 ≡ p = omega (arith, up.1) in
    record {
      within = omega (arith, up.1);
      back = ap (λ x. moved x n q) to ∙ (down ∙ ap Some was);
      not_above = omega (arith, up.1);
      not_below = omega (arith, up.1);
    }

move_down : (o n p q : ℕ) → (o % 2 ≢ 0) → p < n → moved o n p ≡ Some q → Move o n p q
move_down o n p q odd h e =
    let down = some_of_cond _ _ _ (sym (cond-false _ _ _ (ne_eqb (o % 2) 0 odd)) ∙ e) in
    let some : 0 < p = ltb-true _ _ down.0 in
    let to : other_way o ≡ o - 1 = cond-false _ _ _ (ne_eqb (o % 2) 0 odd) in
    let even : (o - 1) % 2 ≡ 0 = omega arith in
    let fits : q + 1 < n = omega (arith, down.1) in
    let up : moved (o - 1) n q ≡ Some (q + 1) = cond-true _ _ _ (eq-eqb _ _ even) ∙ cond-true _ _ _ (lt-ltb (q + 1) n fits) in
    let was : q + 1 ≡ p = omega (arith, down.1) in
    record {
      within = omega arith;
      back = ap (λ x. moved x n q) to ∙ (up ∙ ap Some was);
      not_above = omega (arith, down.1);
      not_below = omega (arith, down.1);
    }

pub move_back : (o n p q : ℕ) → p < n → moved o n p ≡ Some q → Move o n p q
move_back o n p q h e =
    ⊎_elim (λ t. move_up o n p q (eqb-true _ _ t) e) (λ t. move_down o n p q (eqb-false _ _ t) h e) (cases_Bool (o % 2 == 0))
