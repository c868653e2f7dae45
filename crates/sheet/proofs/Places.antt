-- What writes into the parts of a body and of a row leave. Assumes nothing.
use Rattle.std.proofs.Common.{◌≡◌, ℕ, ◌+◌, ◌-◌, ◌*◌, ◌≤◌, List, [], ◌∷◌, ◌++◌, length, take, drop, set, refl, ap, ◌∙◌, append-nil, arith, length-drop, length-take}
use borrow.Rule.Slice.PartMut.{put_mid}
use Rattle.std.proofs.lemmas.List.{take_at, drop_at, drop_all, length-set}
use Rattle.numbers.specs.Low.{low}
use Rattle.numbers.proofs.Laws.{length_low}
use Rattle.sheet.specs.Steps.{steps}
use Rattle.sheet.specs.Bytes.{words, body_bytes}

-- a part of a list has the length asked for
pub length_part : (xs : List ℕ) (a k : ℕ) → a + k ≤ length xs → length (take k (drop a xs)) ≡ k
length_part xs a k h = simp (length-take, length-drop) (omega arith)

-- what is written over the end of a list, behind a front that stays
pub end_part : (front rest zs : List ℕ) (n k : ℕ) → length front ≡ n → length rest ≡ k → take n (front ++ rest) ++ (zs ++ drop k (drop n (front ++ rest))) ≡ front ++ zs
end_part front rest zs n k f r =
    let t : take n (front ++ rest) ≡ front = take_at front rest n f in
    let d : drop n (front ++ rest) ≡ rest = drop_at front rest n f in
    let e : drop k rest ≡ [] = drop_all k rest (omega arith) in
    rw (t, d, e, append-nil zs) refl

-- a body of which answer, 0, count and operations are written
pub body_part : (part ys zs : List ℕ) (a k : ℕ) → length part ≡ 10 + k → length ys ≡ 8 → length zs ≡ k →
    put_mid 10 k (put_mid 2 8 (set (set part 0 a) 1 0) ys) zs ≡ a ∷ (0 ∷ (ys ++ zs))
body_part [] ys zs a k l y z = absurd (omega arith)
body_part (p ∷ []) ys zs a k l y z = absurd (omega arith)
body_part (p ∷ (q ∷ rest)) ys zs a k l y z =
    let r : length (drop 8 rest) ≡ k = simp length-drop (omega arith) in
    ap (λ t. a ∷ (0 ∷ t)) (end_part ys (drop 8 rest) zs 8 k y r)

pub body_written : (part ys zs os : List ℕ) (a n k : ℕ) → length part ≡ 10 + 2 * length os → k ≡ length part - 10 → length (words os) ≡ 2 * length os →
    ys ≡ low (length (take 8 (drop 2 (set (set part 0 a) 1 0)))) n → zs ≡ words os →
    put_mid 10 k (put_mid 2 8 (set (set part 0 a) 1 0) ys) zs ≡ body_bytes (steps a n os)
body_written part ys zs os a n k l e w f z =
    let m : length (set (set part 0 a) 1 0) ≡ length part = simp length-set in
    let eight : length (take 8 (drop 2 (set (set part 0 a) 1 0))) ≡ 8 = length_part (set (set part 0 a) 1 0) 2 8 (omega arith) in
    let y : ys ≡ low 8 n = f ∙ ap (λ i. low i n) eight in
    let b : put_mid 10 k (put_mid 2 8 (set (set part 0 a) 1 0) ys) zs ≡ a ∷ (0 ∷ (ys ++ zs)) =
    body_part part ys zs a k (omega arith) (ap length y ∙ length_low 8 n) (ap length z ∙ (w ∙ omega arith)) in
    b ∙ (ap (λ t. a ∷ (0 ∷ (t ++ zs))) y ∙ ap (λ t. a ∷ (0 ∷ (low 8 n ++ t))) z)

-- a row of which kind, 0 and length are written
pub row_part : (part ys : List ℕ) (a : ℕ) → length part ≡ 4 → put_mid 2 2 (set (set part 0 a) 1 0) ys ≡ a ∷ (0 ∷ ys)
row_part [] ys a l = absurd (omega arith)
row_part (p ∷ []) ys a l = absurd (omega arith)
row_part (p ∷ (q ∷ rest)) ys a l =
    let e : drop 2 rest ≡ [] = drop_all 2 rest (omega arith) in
    ap (λ t. a ∷ (0 ∷ (ys ++ t))) e ∙ ap (λ t. a ∷ (0 ∷ t)) (append-nil ys)

pub row_written : (part ys : List ℕ) (a n : ℕ) → length part ≡ 4 → ys ≡ low (length (take 2 (drop 2 (set (set part 0 a) 1 0)))) n →
    put_mid 2 2 (set (set part 0 a) 1 0) ys ≡ a ∷ (0 ∷ low 2 n)
row_written part ys a n l f =
    let m : length (set (set part 0 a) 1 0) ≡ length part = simp length-set in
    let two : length (take 2 (drop 2 (set (set part 0 a) 1 0))) ≡ 2 = length_part (set (set part 0 a) 1 0) 2 2 (omega arith) in
    row_part part ys a l ∙ ap (λ t. a ∷ (0 ∷ t)) (f ∙ ap (λ i. low i n) two)
