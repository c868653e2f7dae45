-- A check that refuses too many rows by their number looks at one row more than the most, and no further. Assumes nothing.
use Rattle.std.proofs.Common.{◌≡◌, ℕ, suc, ◌<◌, List, length, take, sym, ap, ◌∙◌, inl, inr, arith, take_all}
use Rattle.std.proofs.lemmas.List.{length-take-le}
use Rattle.std.proofs.lemmas.Bool.{cases_lt}

pub enough : {R A : Type 0} (most : ℕ) (many : A) (check : List R → A) → ((rows : List R) → most < length rows → check rows ≡ many) → (rows : List R) → check (take (suc most) rows) ≡ check rows
enough most many check refuses rows =
    elim (cases_lt most (length rows)) [
      | inl more ↦ let long : most < length (take (suc most) rows) = omega (arith, length-take-le (suc most) rows (omega arith)) in refuses (take (suc most) rows) long ∙ sym (refuses rows more)
      | inr few ↦ ap check (take_all (suc most) rows (omega arith))
    ]
