-- How long rows, bodies and sheets are. Assumes nothing.
use Rattle.std.proofs.Common.{◌≡◌, ℕ, ◌+◌, ◌-◌, ◌*◌, ◌<◌, List, [], ◌∷◌, ◌++◌, length, refl, ◌∙◌, arith, length-append}
use Rattle.std.proofs.lemmas.List.{length-replicate, length_push}
use Rattle.std.specs.List.{flat_map}
use Rattle.numbers.specs.Low.{low}
use Rattle.numbers.proofs.Laws.{length_low}
use Rattle.sheet.specs.Steps.{Steps}
use Rattle.sheet.specs.Bytes.{words, body_bytes, body_length, row_bytes, zeros, sheet_bytes, bodies_length}
use Rattle.sheet.proofs.Words.{length_words}

pub length_body : (b : Steps) → length (body_bytes b) ≡ body_length b
length_body b =
    let m : length (low 8 b.count ++ words b.operations) ≡ length (low 8 b.count) + length (words b.operations) = length-append (low 8 b.count) (words b.operations) in
    omega (arith, length_low 8 b.count, length_words b.operations)

pub length_rows : (bs : List Steps) → length (flat_map row_bytes bs) ≡ 4 * length bs
length_rows [] = refl
length_rows (b ∷ bs) = let r : length (flat_map row_bytes bs) ≡ 4 * length bs = length_rows bs in omega arith

pub length_bodies : (bs : List Steps) → length (flat_map body_bytes bs) ≡ bodies_length bs
length_bodies [] = refl
length_bodies (b ∷ bs) =
    let r : length (flat_map body_bytes bs) ≡ bodies_length bs = length_bodies bs in
    let m : length (body_bytes b ++ flat_map body_bytes bs) ≡ length (body_bytes b) + length (flat_map body_bytes bs) = length-append (body_bytes b) (flat_map body_bytes bs) in
    m ∙ omega (arith, length_body b)

pub length_sheet : (n : ℕ) (bs : List Steps) → length (sheet_bytes n bs) ≡ 2 + (4 * length bs + (4 * (n - length bs) + bodies_length bs))
length_sheet n bs =
    let rows : List ℕ = flat_map row_bytes bs in
    let free : List ℕ = zeros (4 * (n - length bs)) in
    let bodies : List ℕ = flat_map body_bytes bs in
    let a : length (rows ++ (free ++ bodies)) ≡ length rows + length (free ++ bodies) = length-append rows (free ++ bodies) in
    let b : length (free ++ bodies) ≡ length free + length bodies = length-append free bodies in
    let z : length free ≡ 4 * (n - length bs) = length-replicate (4 * (n - length bs)) 0 in
    omega (arith, length_rows bs, length_bodies bs)

pub bodies_length_push : (bs : List Steps) (b : Steps) → bodies_length (bs ++ b ∷ []) ≡ bodies_length bs + body_length b
bodies_length_push [] b = omega arith
bodies_length_push (a ∷ bs) b =
    let r : bodies_length (bs ++ b ∷ []) ≡ bodies_length bs + body_length b = bodies_length_push bs b in omega arith

-- one body more makes a sheet with a free row longer by that body
pub length_sheet_push : (n : ℕ) (bs : List Steps) (b : Steps) → length bs < n →
    length (sheet_bytes n (bs ++ b ∷ [])) ≡ length (sheet_bytes n bs) + body_length b
length_sheet_push n bs b h =
    omega (arith, length_sheet n bs, length_sheet n (bs ++ b ∷ []), bodies_length_push bs b, length_push bs b)
