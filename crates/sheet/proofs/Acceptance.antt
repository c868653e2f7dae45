-- What a body that is not refused meets, and what its two writes leave. Assumes nothing.
use Rattle.std.proofs.Common.{◌≡◌, ℕ, ◌+◌, ◌*◌, ◌^◌, ◌<◌, Bool, true, ltb, List, ◌++◌, length, get_or, take, drop, None, sym, ap, ◌∙◌, arith}
use borrow.Rule.Slice.PartMut.{put_mid}
use Rattle.std.proofs.lemmas.List.{drop-drop}
use Rattle.std.proofs.lemmas.Bool.{and_from, lt-ltb}
use Rattle.std.proofs.lemmas.Bool.Decides.{nat_tests}
use Rattle.sheet.specs.Steps.{Steps, keeps_rule, sound, fits, all_below}
use Rattle.sheet.specs.Bytes.{over, body_bytes, row_bytes, body_length}
use Rattle.sheet.specs.States.{State, put_refusal_by, put_bytes}
use Rattle.sheet.proofs.Words.{all_below_from}
use Rattle.sheet.proofs.Lengths.{length_body}

pub accepted_keeps : (s : State) (kept : Bool) (k room : ℕ) → None ≡ put_refusal_by s kept k room → kept ≡ true
accepted_keeps s kept k room e = grind (arith, nat_tests)

pub accepted_few : (s : State) (kept : Bool) (k room : ℕ) → None ≡ put_refusal_by s kept k room → s.filled < s.declared
accepted_few s kept k room e = grind (arith, nat_tests)

-- a body of a 64 bit count and 16 bit operations that keeps its rule is sound
pub kept_sound : (b : Steps) → keeps_rule b ≡ true → b.count < 2 ^ 64 → ((i : ℕ) → get_or b.operations i 0 < 2 ^ 16) → sound b ≡ true
kept_sound b k n h =
    and_from (keeps_rule b) (fits b) k
    (and_from (ltb b.count (2 ^ 64)) (all_below (2 ^ 16) b.operations) (lt-ltb b.count (2 ^ 64) n) (all_below_from (2 ^ 16) b.operations h))

-- a write into a part is a write over the whole
pub over_part : (a k : ℕ) (xs ys zs : List ℕ) → ys ≡ zs → k ≡ length zs → put_mid a k xs ys ≡ over a zs xs
over_part a k xs ys zs e l =
    let d : drop k (drop a xs) ≡ drop (a + length zs) xs = drop-drop k a xs ∙ ap (λ m. drop (a + m) xs) l in
    ap (λ y. take a xs ++ (y ++ drop k (drop a xs))) e ∙ ap (λ t. take a xs ++ (zs ++ t)) d

-- the two writes of a body
pub put_parts : (s : State) (b : Steps) (buffer ys zs : List ℕ) (row k m : ℕ) → ys ≡ body_bytes b → zs ≡ row_bytes b → row ≡ 2 + 4 * s.filled →
    k ≡ body_length b → m ≡ 4 → put_mid row m (put_mid s.end k buffer ys) zs ≡ put_bytes s b buffer
put_parts s b buffer ys zs row k m y z r l four =
    over_part row m (put_mid s.end k buffer ys) zs (row_bytes b) z four
    ∙ (ap (over row (row_bytes b)) (over_part s.end k buffer ys (body_bytes b) y (l ∙ sym (length_body b)))
    ∙ ap (λ i. over i (row_bytes b) (over s.end (body_bytes b) buffer)) r)
