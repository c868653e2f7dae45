-- A body that is put goes behind those before it: from the sheet of the bodies so far to that of one more. Assumes nothing.
use Rattle.std.proofs.Common.{◌≡◌, ℕ, ◌+◌, ◌-◌, ◌*◌, ◌<◌, true, List, [], ◌∷◌, ◌++◌, length, take, drop, sym, refl, ap, ◌∙◌, append_assoc, arith}
use Rattle.std.specs.List.{flat_map}
use Rattle.std.proofs.lemmas.List.{take_at, drop_at, drop-drop, replicate-append-replicate, flat_map_more, length_push}
use Rattle.std.proofs.lemmas.Bool.{and_parts, and_from}
use Rattle.sheet.specs.Steps.{Steps, sound, all_sound}
use Rattle.sheet.specs.Bytes.{body_bytes, body_length, row_bytes, zeros, sheet_bytes, over}
use Rattle.sheet.specs.States.{State, put_state, put_bytes, Written}
use Rattle.sheet.proofs.Lengths.{length_body, length_rows, length_sheet_push}

-- what is written behind a front
pub over_behind : (front tail ys : List ℕ) (n : ℕ) → length front ≡ n → over n ys (front ++ tail) ≡ front ++ (ys ++ drop (length ys) tail)
over_behind front tail ys n f =
    let t : take n (front ++ tail) ≡ front = take_at front tail n f in
    let d : drop (n + length ys) (front ++ tail) ≡ drop (length ys) tail =
    sym (drop-drop (length ys) n (front ++ tail)) ∙ ap (drop (length ys)) (drop_at front tail n f) in
    rw (t, d) refl

-- the first of the rows that are still zero
pub free_row : (n p : ℕ) → p < n → zeros (4 * (n - p)) ≡ zeros 4 ++ zeros (4 * (n - (p + 1)))
free_row n p h =
    let e : 4 * (n - p) ≡ 4 + 4 * (n - (p + 1)) = omega arith in
    ap zeros e ∙ sym (replicate-append-replicate 4 (4 * (n - (p + 1))) 0)

row_first : (rows row free bodies behind : List ℕ) → (rows ++ ((row ++ free) ++ bodies)) ++ behind ≡ rows ++ (row ++ (free ++ (bodies ++ behind)))
row_first rows row free bodies behind = simp append_assoc

-- a sheet with a free row, and what stands behind it, from the free row on
pub from_free_row : (n : ℕ) (bs : List Steps) (behind : List ℕ) → length bs < n →
    sheet_bytes n bs ++ behind ≡
    (n ∷ (0 ∷ flat_map row_bytes bs)) ++ (zeros 4 ++ (zeros (4 * (n - (length bs + 1))) ++ (flat_map body_bytes bs ++ behind)))
from_free_row n bs behind h =
    rw (free_row n (length bs) h)
    (ap (λ t. n ∷ (0 ∷ t)) (row_first (flat_map row_bytes bs) (zeros 4) (zeros (4 * (n - (length bs + 1)))) (flat_map body_bytes bs) behind))

pub rows_push : (bs : List Steps) (b : Steps) → flat_map row_bytes (bs ++ b ∷ []) ≡ flat_map row_bytes bs ++ row_bytes b
rows_push bs b = sym (flat_map_more row_bytes [] bs b)

pub bodies_push : (bs : List Steps) (b : Steps) → flat_map body_bytes (bs ++ b ∷ []) ≡ flat_map body_bytes bs ++ body_bytes b
bodies_push bs b = sym (flat_map_more body_bytes [] bs b)

regroup : (rows row free bodies body rest : List ℕ) → ((rows ++ row) ++ (free ++ (bodies ++ body))) ++ rest ≡ rows ++ (row ++ (free ++ (bodies ++ (body ++ rest))))
regroup rows row free bodies body rest = simp append_assoc

-- the sheet of one body more, in the same parts
pub pushed_sheet : (n : ℕ) (bs : List Steps) (b : Steps) (rest : List ℕ) →
    sheet_bytes n (bs ++ b ∷ []) ++ rest ≡
    (n ∷ (0 ∷ flat_map row_bytes bs)) ++ (row_bytes b ++ (zeros (4 * (n - (length bs + 1))) ++ (flat_map body_bytes bs ++ (body_bytes b ++ rest))))
pushed_sheet n bs b rest =
    rw (rows_push bs b, bodies_push bs b, length_push bs b)
    (ap (λ t. n ∷ (0 ∷ t)) (regroup (flat_map row_bytes bs) (row_bytes b) (zeros (4 * (n - (length bs + 1)))) (flat_map body_bytes bs) (body_bytes b) rest))

pub put_sheet : (n : ℕ) (bs : List Steps) (b : Steps) (rest : List ℕ) (end row : ℕ) → length bs < n →
    end ≡ length (sheet_bytes n bs) → row ≡ 2 + 4 * length bs →
    over row (row_bytes b) (over end (body_bytes b) (sheet_bytes n bs ++ rest)) ≡ sheet_bytes n (bs ++ b ∷ []) ++ drop (body_length b) rest
put_sheet n bs b rest end row h e r =
    let behind = body_bytes b ++ drop (body_length b) rest in
    let front = n ∷ (0 ∷ flat_map row_bytes bs) in
    let tail = zeros (4 * (n - (length bs + 1))) ++ (flat_map body_bytes bs ++ behind) in
    let one : over end (body_bytes b) (sheet_bytes n bs ++ rest) ≡ sheet_bytes n bs ++ behind =
    over_behind (sheet_bytes n bs) rest (body_bytes b) end (sym e) ∙ ap (λ k. sheet_bytes n bs ++ (body_bytes b ++ drop k rest)) (length_body b) in
    let f : length front ≡ row = omega (arith, length_rows bs) in
    let two : over row (row_bytes b) (front ++ (zeros 4 ++ tail)) ≡ front ++ (row_bytes b ++ tail) =
    over_behind front (zeros 4 ++ tail) (row_bytes b) row f in
    ap (over row (row_bytes b)) (one ∙ from_free_row n bs behind h) ∙ (two ∙ sym (pushed_sheet n bs b (drop (body_length b) rest)))

pub all_sound_push : (bs : List Steps) (b : Steps) → all_sound bs ≡ true → sound b ≡ true → all_sound (bs ++ b ∷ []) ≡ true
all_sound_push [] b e s = and_from (sound b) true s refl
all_sound_push (a ∷ bs) b e s =
    let p = and_parts (sound a) (all_sound bs) e in
    and_from (sound a) (all_sound (bs ++ b ∷ [])) p.0 (all_sound_push bs b p.1 s)

-- the whole step
pub written_more : (s : State) (b : Steps) (buffer : List ℕ) → s.filled < s.declared → sound b ≡ true →
    (bs : List Steps) (rest : List ℕ) → Written s buffer bs rest → Written (put_state s b) (put_bytes s b buffer) (bs ++ b ∷ []) (drop (body_length b) rest)
written_more s b buffer h k bs rest w =
    let few : length bs < s.declared = omega (arith, w.filled) in
    record {
      filled = omega (arith, w.filled, length_push bs b);
      end = omega (arith, w.end, length_sheet_push s.declared bs b few);
      sound = all_sound_push bs b w.sound k;
      begins = ap (put_bytes s b) w.begins ∙ put_sheet s.declared bs b rest s.end (2 + 4 * s.filled) few w.end (ap (λ m. 2 + 4 * m) w.filled);
    }
