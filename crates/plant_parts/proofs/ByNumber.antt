-- Rows of a body by their number. Assumes nothing.
use Rattle.std.proofs.Common.{◌≡◌, ℕ, zero, suc, ◌+◌, ◌*◌, ◌<◌, ◌≤◌, List, [], ◌∷◌, get_or, drop, Some, None, sym, refl, ap, ◌∙◌, arith}
use Rattle.std.specs.List.{slice_get}
use Rattle.std.proofs.lemmas.List.{get_or-drop, drop-drop}
use Rattle.plant_bodies.specs.Rows.{rows_in, four}

-- a row and those past the last
pub row_number : {R : Type 0} (said : List ℕ → R) (n i : ℕ) (bs : List ℕ) → i < n → slice_get (rows_in said n bs) i ≡ Some (said (drop (4 * i) bs))
row_number said zero i bs h = absurd (omega arith)
row_number said (suc n) zero bs h = refl
row_number said (suc n) (suc i) bs h =
    let more : 4 + 4 * i ≡ 4 * suc i = omega arith in
    row_number said n i (drop 4 bs) (omega arith) ∙ ap (λ k. Some (said k)) (drop-drop (4 * i) 4 bs ∙ ap (λ k. drop k bs) more)

pub row_past : {R : Type 0} (said : List ℕ → R) (n i : ℕ) (bs : List ℕ) → n ≤ i → None ≡ slice_get (rows_in said n bs) i
row_past said zero i bs h = refl
row_past said (suc n) zero bs h = absurd (omega arith)
row_past said (suc n) (suc i) bs h = row_past said n i (drop 4 bs) (omega arith)

-- its bytes, by their places in the body
byte_there : (bs : List ℕ) (m i k n : ℕ) → n ≡ (m + 4 * i) + k → get_or bs n 0 ≡ get_or (drop (4 * i) (drop m bs)) k 0
byte_there bs m i k n e =
    ap (λ j. get_or bs j 0) e ∙ (sym (get_or-drop (m + 4 * i) bs k 0) ∙ ap (λ t. get_or t k 0) (sym (drop-drop (4 * i) m bs)))

pub row_there : {R : Type 0} (said : List ℕ → R) → ((bs : List ℕ) → said (four bs) ≡ said bs) → (n i begin at a b c d : ℕ) (bs : List ℕ) (row : R) →
    i < n → at ≡ begin + 4 * i → a ≡ get_or bs at 0 → b ≡ get_or bs (at + 1) 0 → c ≡ get_or bs (at + 2) 0 → d ≡ get_or bs (at + 3) 0 → row ≡ said (a ∷ (b ∷ (c ∷ (d ∷ [])))) →
    Some row ≡ slice_get (rows_in said n (drop begin bs)) i
row_there said alone n i begin at a b c d bs row h e p q s t r =
    let f : List ℕ = drop (4 * i) (drop begin bs) in
    let w : a ≡ get_or f 0 0 = p ∙ byte_there bs begin i 0 at (omega arith) in
    let x : b ≡ get_or f 1 0 = q ∙ byte_there bs begin i 1 (at + 1) (omega arith) in
    let y : c ≡ get_or f 2 0 = s ∙ byte_there bs begin i 2 (at + 2) (omega arith) in
    let z : d ≡ get_or f 3 0 = t ∙ byte_there bs begin i 3 (at + 3) (omega arith) in
    let bytes : a ∷ (b ∷ (c ∷ (d ∷ []))) ≡ four f =
    ap (λ k. k ∷ (b ∷ (c ∷ (d ∷ [])))) w ∙ (ap (λ k. get_or f 0 0 ∷ (k ∷ (c ∷ (d ∷ [])))) x
    ∙ (ap (λ k. get_or f 0 0 ∷ (get_or f 1 0 ∷ (k ∷ (d ∷ [])))) y ∙ ap (λ k. get_or f 0 0 ∷ (get_or f 1 0 ∷ (get_or f 2 0 ∷ (k ∷ [])))) z)) in
    ap Some (r ∙ (ap said bytes ∙ alone f)) ∙ sym (row_number said n i (drop begin bs) h)
