-- A setting of the pair and its two parts: each gives the other. Assumes nothing.
use Rattle.std.specs.Prelude.{◌≡◌, ℕ, ◌+◌, ◌*◌, ◌/◌, ◌%◌, ◌<◌, ◌≤◌}
use Rattle.std.proofs.Common.{sym, ap, subst, ◌∙◌, add_comm, mul_comm}
use Rattle.std.proofs.Math.Arith.{digits_lt, digits_div, digits_mod}
use Rattle.std.proofs.lemmas.Nat.{div-add-mod', div_below, mod_below}
use Rattle.pair.specs.Meaning.{first_part, second_part, joined}

-- the lower digit last
turned : (n x y : ℕ) → joined n x y ≡ y * n + x
turned n x y = add_comm x (n * y) ∙ ap (λ p. p + x) (mul_comm n y)

pub first_of_joined : (n x y : ℕ) → x < n → first_part n (joined n x y) ≡ x
first_of_joined n x y h = ap (λ s. s % n) (turned n x y) ∙ digits_mod y h

pub second_of_joined : (n x y : ℕ) → x < n → second_part n (joined n x y) ≡ y
second_of_joined n x y h = ap (λ s. s / n) (turned n x y) ∙ digits_div y h

pub joined_parts : (n s : ℕ) → joined n (first_part n s) (second_part n s) ≡ s
joined_parts n s = turned n (s % n) (s / n) ∙ div-add-mod' s n

pub joined_below : (n k x y : ℕ) → x < n → y < k → joined n x y < n * k
joined_below n k x y h l =
    let P : ℕ → Type 0 = λ s. s < n * k in
    let Q : ℕ → Type 0 = λ p. y * n + x < p in
    subst P (sym (turned n x y)) (subst Q (mul_comm k n) (digits_lt l h))

pub first_below : (n s : ℕ) → 1 ≤ n → first_part n s < n
first_below n s h = mod_below s n h

pub second_below : (n k s : ℕ) → 1 ≤ n → s < n * k → second_part n s < k
second_below n k s h l =
    let P : ℕ → Type 0 = λ p. s < p in
    div_below s n k h (subst P (mul_comm n k) l)
