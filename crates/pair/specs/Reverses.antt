-- The reverses of two plants side by side. Assumes nothing.
use Rattle.std.specs.Prelude.{◌≡◌, ℕ, ◌+◌, ◌-◌, ◌<◌, ◌≤◌, nat_lt}
use Rattle.std.proofs.Common.{ap, ◌∙◌, ⊎_elim, arith}
use Rattle.std.proofs.lemmas.Bool.{cases_lt, lt-ltb, le-ltb, cond-true, cond-false}
use Rattle.plant.specs.Meaning.{Meaning}
use Rattle.plant.specs.Laws.{Lawful}
use Rattle.pair.specs.Meaning.{pair_reverse}

-- the reverse, by where the operation stands
pub reverse_of_first : (a b : Meaning) (o : ℕ) → o < a.operations → pair_reverse a b o ≡ a.reverse o
reverse_of_first a b o h = cond-true (nat_lt o a.operations) _ _ (lt-ltb o a.operations h)

pub reverse_of_second : (a b : Meaning) (o : ℕ) → a.operations ≤ o → pair_reverse a b o ≡ a.operations + b.reverse (o - a.operations)
reverse_of_second a b o h = cond-false (nat_lt o a.operations) _ _ (le-ltb o a.operations h)

-- the place among the second plant's operations, and back
pub second_place : (p k : ℕ) → (p + k) - p ≡ k
second_place p k = omega arith

pub beside_reverse_within : (a b : Meaning) → Lawful a → Lawful b → (o : ℕ) → o < a.operations + b.operations → pair_reverse a b o < a.operations + b.operations
beside_reverse_within a b la lb o h =
    ⊎_elim
    (λ l. let is = reverse_of_first a b o l in let low = la.reverse_within o l in omega arith)
    (λ l. let is = reverse_of_second a b o l in let low = lb.reverse_within (o - a.operations) (omega arith) in omega arith)
    (cases_lt o a.operations)

pub beside_reverse_past : (a b : Meaning) → Lawful b → (o : ℕ) → a.operations + b.operations ≤ o → pair_reverse a b o ≡ o
beside_reverse_past a b lb o h =
    let is = reverse_of_second a b o (omega arith) in
    let same = lb.reverse_past (o - a.operations) (omega arith) in
    omega arith

pub beside_reverse_twice : (a b : Meaning) → Lawful a → Lawful b → (o : ℕ) → pair_reverse a b (pair_reverse a b o) ≡ o
beside_reverse_twice a b la lb o =
    ⊎_elim
    (λ l. ap (pair_reverse a b) (reverse_of_first a b o l)
    ∙ reverse_of_first a b (a.reverse o) (la.reverse_within o l)
    ∙ la.reverse_twice o)
    (λ l.
    let p = a.operations in
    let k = b.reverse (o - p) in
    ap (pair_reverse a b) (reverse_of_second a b o l)
    ∙ reverse_of_second a b (p + k) (omega arith)
    ∙ ap (λ j. p + b.reverse j) (second_place p k)
    ∙ (let back = lb.reverse_twice (o - p) in omega arith))
    (cases_lt o a.operations)
