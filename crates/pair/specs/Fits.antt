-- What a pair that is not too large keeps to. Assumes nothing.
use Rattle.std.specs.Prelude.{◌≡◌, ℕ, ◌+◌, ◌*◌, ◌<◌, ◌≤◌, false, ◌⊎◌, Some, None, Option, nat_lt}
use Rattle.std.proofs.Common.{sym, ap, subst, ◌∙◌, inl, inr, ⊎_elim, arith}
use Rattle.std.proofs.lemmas.Bool.{cases_lt, lt-ltb, le-ltb, or_parts, ltb-false, cond-true, cond-false}
use Rattle.plant.specs.Meaning.{Meaning}
use Rattle.plant.specs.Laws.{Lawful}
use Rattle.pair.specs.Meaning.{too_large, first_part, second_part, joined, parts_in}
use Rattle.pair.specs.Parts.{joined_below, first_below, second_below}

pub settings_fit : (a b : Meaning) → too_large a b ≡ false → a.settings * b.settings ≤ 16777216
settings_fit a b e = ltb-false 16777216 (a.settings * b.settings) (or_parts _ (nat_lt 2048 (a.operations + b.operations)) e).0

pub operations_fit : (a b : Meaning) → too_large a b ≡ false → a.operations + b.operations ≤ 2048
operations_fit a b e = ltb-false 2048 (a.operations + b.operations) (or_parts (nat_lt 16777216 (a.settings * b.settings)) _ e).1

-- the setting that is joined after a step, where n is the number of the first plant's settings and r is where it led
pub joined_fits : (a b : Meaning) (n x y : ℕ) → too_large a b ≡ false → n ≡ a.settings → x < a.settings → y < b.settings → joined n x y < 16777216
joined_fits a b n x y fits is h l =
    let P : ℕ → Type 0 = λ k. joined k x y < 16777216 in
    let low = joined_below a.settings b.settings x y h l in
    let most = settings_fit a b fits in
    subst P (sym is) (omega arith)

pub first_moved_fits : (a b : Meaning) (n x y o : ℕ) (r : Option ℕ) (to : ℕ) → Lawful a → too_large a b ≡ false → n ≡ a.settings → y < b.settings → r ≡ a.step x o → r ≡ Some to → joined n to y < 16777216
first_moved_fits a b n x y o r to la fits is l steps some =
    joined_fits a b n to y fits is (la.step_within x o to (sym steps ∙ some)) l

pub second_moved_fits : (a b : Meaning) (n x y o : ℕ) (r : Option ℕ) (to : ℕ) → Lawful b → too_large a b ≡ false → n ≡ a.settings → x < a.settings → r ≡ b.step y o → r ≡ Some to → joined n x to < 16777216
second_moved_fits a b n x y o r to lb fits is h steps some =
    joined_fits a b n x to fits is h (lb.step_within y o to (sym steps ∙ some))

-- the parts of a setting in range are settings of the two plants
within_parts_below : (a b : Meaning) (range s x y : ℕ) → Lawful a → range ≡ a.settings * b.settings → parts_in range a.settings s ≡ Some (x, y) → (x < a.settings) × (y < b.settings)
within_parts_below a b range s x y la whole e =
    let n = a.settings in
    ⊎_elim
    (λ h.
    let is : Some (first_part n s, second_part n s) ≡ Some (x, y) = sym (cond-true (nat_lt s range) _ _ (lt-ltb s range h)) ∙ e in
    let both : ◌≡◌ {A = ℕ × ℕ} (first_part n s, second_part n s) (x, y) = cc in
    let one : first_part n s ≡ x = ap (λ p. p.0) both in
    let other : second_part n s ≡ y = ap (λ p. p.1) both in
    let low = first_below n s la.settings_some in
    let high = second_below n b.settings s la.settings_some (omega arith) in
    (omega arith, omega arith))
    (λ h.
    let none : parts_in range n s ≡ None = cond-false (nat_lt s range) _ _ (le-ltb s range h) in
    let z : ◌≡◌ {A = ℕ} 0 1 = cc in
    absurd (omega arith))
    (cases_lt s range)

-- the same, from what the calls answer: n and k settings, and the parts r
pub parts_below : (a b : Meaning) (n k s x y : ℕ) (r : Option (ℕ × ℕ)) → Lawful a → n ≡ a.settings → k ≡ b.settings → r ≡ parts_in (n * k) a.settings s → r ≡ Some (x, y) → (x < a.settings) × (y < b.settings)
parts_below a b n k s x y r la firsts seconds parts some =
    let whole : n * k ≡ a.settings * b.settings = ap (λ i. i * k) firsts ∙ ap (λ j. a.settings * j) seconds in
    within_parts_below a b (n * k) s x y la whole (sym parts ∙ some)

-- a reverse is an operation, or out of range the operation itself
pub reverse_small : (m : Meaning) (o : ℕ) → Lawful m → (m.reverse o ≤ 2048) ⊎ (m.reverse o ≡ o)
reverse_small m o l =
    ⊎_elim
    (λ h. let low = l.reverse_within o h in let most = l.operations_most in inl (omega arith))
    (λ h. inr (l.reverse_past o h))
    (cases_lt o m.operations)
