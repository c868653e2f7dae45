-- Numbers in bytes taken two by two: by place, and back from the bytes that were written. Assumes nothing.
use Rattle.std.proofs.Common.{◌≡◌, ℕ, zero, suc, ◌+◌, ◌*◌, ◌/◌, ◌%◌, ◌<◌, ◌≤◌, true, ltb, List, [], ◌∷◌, ◌++◌, length, get_or, Some, None, refl, ap, ◌∙◌, arith}
use Rattle.std.specs.List.{slice_get}
use Rattle.std.specs.Simd.{first_chunks}
use Rattle.std.proofs.lemmas.Bool.{and_parts, and_from, ltb-true, lt-ltb}
use Rattle.numbers.specs.Low.{low, value, Bytes}
use Rattle.numbers.proofs.Chunks.{chunk_number}
use Rattle.numbers.proofs.Laws.{value_low, low_value}
use Rattle.sheet.specs.Steps.{all_below}
use Rattle.sheet.specs.Bytes.{words}
use Rattle.bodies.specs.StepsRead.{pairs}

-- past the end
pub pairs_past : (xs : List ℕ) (i : ℕ) → length xs / 2 ≤ i → None ≡ slice_get (pairs xs) i
pairs_past [] i h = refl
pairs_past (x ∷ []) i h = refl
pairs_past (x ∷ (y ∷ zs)) zero h = absurd (omega arith)
pairs_past (x ∷ (y ∷ zs)) (suc i) h = pairs_past zs i (omega arith)

-- within
pub pairs_at : (xs : List ℕ) (i : ℕ) → i < length xs / 2 → Some (value (get_or xs (2 * i) 0 ∷ (get_or xs (2 * i + 1) 0 ∷ []))) ≡ slice_get (pairs xs) i
pairs_at [] i h = absurd (omega arith)
pairs_at (x ∷ []) i h = absurd (omega arith)
pairs_at (x ∷ (y ∷ zs)) zero h = refl
pairs_at (x ∷ (y ∷ zs)) (suc i) h =
    let a : 2 * suc i ≡ suc (suc (2 * i)) = omega arith in
    let b : 2 * suc i + 1 ≡ suc (suc (2 * i + 1)) = omega arith in
    rw (b, a) (pairs_at zs i (omega arith))

-- the pair of bytes at a place
pub pair_at : (xs w : List ℕ) (i n : ℕ) → i < length xs / 2 → w ≡ get_or (first_chunks 2 (length xs / 2) xs) i [] → n ≡ get_or w 0 0 + 256 * (get_or w 1 0 + 0) → Some n ≡ slice_get (pairs xs) i
pair_at xs w i n h e f =
    let first : 2 * i + 0 ≡ 2 * i = omega arith in
    let a : get_or w 0 0 ≡ get_or xs (2 * i) 0 = ap (λ t. get_or t 0 0) e ∙ (chunk_number 2 (length xs / 2) i 0 xs h (omega arith) ∙ ap (λ m. get_or xs m 0) first) in
    let b : get_or w 1 0 ≡ get_or xs (2 * i + 1) 0 = ap (λ t. get_or t 1 0) e ∙ chunk_number 2 (length xs / 2) i 1 xs h (omega arith) in
    let m : n ≡ get_or xs (2 * i) 0 + 256 * (get_or xs (2 * i + 1) 0 + 0) = omega (arith, f, a, b) in
    ap Some m ∙ pairs_at xs i h

pub length_pairs : (xs : List ℕ) → length (pairs xs) ≡ length xs / 2
length_pairs [] = refl
length_pairs (x ∷ []) = refl
length_pairs (x ∷ (y ∷ zs)) = let r : length (pairs zs) ≡ length zs / 2 = length_pairs zs in omega arith

-- what was written is read
pub pairs_words : (os : List ℕ) → all_below 65536 os ≡ true → pairs (words os) ≡ os
pairs_words [] h = refl
pairs_words (o ∷ os) h =
    let p = and_parts (ltb o 65536) (all_below 65536 os) h in
    let l : o < 65536 = ltb-true o 65536 p.0 in
    let v : value (low 2 o) ≡ o = value_low 2 o l in
    let r : pairs (words os) ≡ os = pairs_words os p.1 in
    ap (λ n. n ∷ pairs (words os)) v ∙ ap (λ ns. o ∷ ns) r

-- what is read is written
pub words_pairs : (xs : List ℕ) → Bytes xs → length xs % 2 ≡ 0 → words (pairs xs) ≡ xs
words_pairs [] b h = refl
words_pairs (x ∷ []) b h = absurd (omega arith)
words_pairs (x ∷ (y ∷ zs)) b h =
    let v : low 2 (value (x ∷ (y ∷ []))) ≡ x ∷ (y ∷ []) = low_value (x ∷ (y ∷ [])) (b.0, (b.1.0, tt)) in
    let r : words (pairs zs) ≡ zs = words_pairs zs b.1.1 (omega arith) in
    ap (λ n. n ++ words (pairs zs)) v ∙ ap (λ t. x ∷ (y ∷ t)) r

-- numbers in pairs of bytes fit 16 bits
pub pairs_below : (xs : List ℕ) → Bytes xs → all_below 65536 (pairs xs) ≡ true
pairs_below [] b = refl
pairs_below (x ∷ []) b = refl
pairs_below (x ∷ (y ∷ zs)) b =
    let f : x < 256 = b.0 in
    let g : y < 256 = b.1.0 in
    let l : value (x ∷ (y ∷ [])) < 65536 = omega arith in
    and_from (ltb (value (x ∷ (y ∷ []))) 65536) (all_below 65536 (pairs zs)) (lt-ltb (value (x ∷ (y ∷ []))) 65536 l) (pairs_below zs b.1.1)
