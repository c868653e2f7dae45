-- Steps bodies both ways: what a sound body writes is accepted and reads back as it, and an accepted body is what it
-- writes. Assumes nothing.
use Rattle.std.proofs.Common.{◌≡◌, ℕ, ◌+◌, ◌-◌, ◌*◌, ◌/◌, ◌%◌, ◌^◌, ◌<◌, ◌≤◌, true, ltb, List, [], ◌∷◌, ◌++◌, length, get_or, take, drop, None, sym, refl, ap, ◌∙◌, arith, length-drop, take-append-drop}
use Rattle.std.proofs.lemmas.List.{length-take-le}
use Rattle.std.proofs.lemmas.Bool.{and_parts, and_from, ltb-true, lt-ltb}
use Rattle.std.proofs.lemmas.Bool.Decides.{nat_tests}
use Rattle.numbers.specs.Low.{low, value, Bytes}
use Rattle.numbers.proofs.Laws.{value_low, low_value, value_below, bytes_take, bytes_drop}
use Rattle.sheet.specs.Steps.{Steps, go_together, keeps_rule, fits, sound, all_below}
use Rattle.sheet.specs.Bytes.{words, body_bytes, body_length}
use Rattle.sheet.proofs.Lengths.{length_body}
use Rattle.bodies.specs.StepsRule.{fields_fault, steps_fault}
use Rattle.bodies.specs.StepsRead.{pairs, steps_of}
use Rattle.bodies.proofs.Pairs.{length_pairs, pairs_words, words_pairs, pairs_below}

-- fields that go together have no fault
pub fields_good : (n a c k : ℕ) → n ≡ 10 + 2 * k → go_together a c k ≡ true → fields_fault n a 0 c ≡ None
fields_good n a c k e h = grind (arith, nat_tests)

-- and those without a fault go together
pub fields_long : (n a z c : ℕ) → fields_fault n a z c ≡ None → 10 ≤ n
fields_long n a z c e = grind (arith, nat_tests)

pub fields_short : (n a z c : ℕ) → fields_fault n a z c ≡ None → n ≤ 520
fields_short n a z c e = grind (arith, nat_tests)

pub fields_even : (n a z c : ℕ) → fields_fault n a z c ≡ None → n % 2 ≡ 0
fields_even n a z c e = grind (arith, nat_tests)

pub fields_zero : (n a z c : ℕ) → fields_fault n a z c ≡ None → z ≡ 0
fields_zero n a z c e = grind (arith, nat_tests)

pub fields_rule : (n a z c k : ℕ) → fields_fault n a z c ≡ None → k ≡ (n - 10) / 2 → go_together a c k ≡ true
fields_rule n a z c k e f = grind (arith, nat_tests)

-- a sound body is accepted
pub written_accepted : (b : Steps) → sound b ≡ true → steps_fault (body_bytes b) ≡ None
written_accepted b h =
    let p = and_parts (keeps_rule b) (fits b) h in
    let q = and_parts (ltb b.count (2 ^ 64)) (all_below (2 ^ 16) b.operations) p.1 in
    let v : value (low 8 b.count) ≡ b.count = value_low 8 b.count (ltb-true b.count (2 ^ 64) q.0) in
    ap (λ n. fields_fault n b.answer 0 (value (low 8 b.count))) (length_body b)
    ∙ (ap (λ c. fields_fault (body_length b) b.answer 0 c) v
    ∙ fields_good (body_length b) b.answer b.count (length b.operations) refl p.0)

-- and reads back as it
pub written_read : (b : Steps) → sound b ≡ true → steps_of (body_bytes b) ≡ b
written_read b h =
    let p = and_parts (keeps_rule b) (fits b) h in
    let q = and_parts (ltb b.count (2 ^ 64)) (all_below (2 ^ 16) b.operations) p.1 in
    let v : value (low 8 b.count) ≡ b.count = value_low 8 b.count (ltb-true b.count (2 ^ 64) q.0) in
    let w : pairs (words b.operations) ≡ b.operations = pairs_words b.operations q.1 in
    rw (v, w) refl

-- the bytes behind answer and zero are count and operations
pub rest_written : (rest : List ℕ) → Bytes rest → 8 ≤ length rest → length rest % 2 ≡ 0 →
    low 8 (value (take 8 rest)) ++ words (pairs (drop 8 rest)) ≡ rest
rest_written rest b l e =
    let n : length (take 8 rest) ≡ 8 = length-take-le 8 rest l in
    let c : low 8 (value (take 8 rest)) ≡ take 8 rest = ap (λ k. low k (value (take 8 rest))) (sym n) ∙ low_value (take 8 rest) (bytes_take 8 rest b) in
    let m : length (drop 8 rest) % 2 ≡ 0 = rw length-drop (omega arith) in
    let o : words (pairs (drop 8 rest)) ≡ drop 8 rest = words_pairs (drop 8 rest) (bytes_drop 8 rest b) m in
    ap (λ t. t ++ words (pairs (drop 8 rest))) c ∙ (ap (λ t. take 8 rest ++ t) o ∙ take-append-drop 8 rest)

-- an accepted body is what it writes
pub accepted_written : (bs : List ℕ) → Bytes bs → steps_fault bs ≡ None → body_bytes (steps_of bs) ≡ bs
accepted_written [] b h = absurd (omega (arith, fields_long 0 0 0 0 h))
accepted_written (a ∷ []) b h = absurd (omega (arith, fields_long 1 a 0 0 h))
accepted_written (a ∷ (z ∷ rest)) b h =
    let n : ℕ = length (a ∷ (z ∷ rest)) in
    let c : ℕ = value (take 8 rest) in
    let l : 10 ≤ n = fields_long n a z c h in
    let e : n % 2 ≡ 0 = fields_even n a z c h in
    let y : z ≡ 0 = fields_zero n a z c h in
    let r : low 8 (value (take 8 rest)) ++ words (pairs (drop 8 rest)) ≡ rest = rest_written rest b.1.1 (omega arith) (omega arith) in
    ap (λ t. a ∷ (0 ∷ t)) r ∙ ap (λ i. a ∷ (i ∷ rest)) (sym y)

-- and what it says is sound
pub accepted_sound : (bs : List ℕ) → Bytes bs → steps_fault bs ≡ None → sound (steps_of bs) ≡ true
accepted_sound bs b h =
    let n : ℕ = length bs in
    let a : ℕ = get_or bs 0 0 in
    let c : ℕ = value (take 8 (drop 2 bs)) in
    let l : 10 ≤ n = fields_long n a (get_or bs 1 0) c h in
    let d : length (drop 10 bs) ≡ n - 10 = length-drop 10 bs in
    let k : length (pairs (drop 10 bs)) ≡ (n - 10) / 2 = length_pairs (drop 10 bs) ∙ ap (λ m. m / 2) d in
    let e : length (take 8 (drop 2 bs)) ≡ 8 = length-take-le 8 (drop 2 bs) (rw length-drop (omega arith)) in
    let u = value_below (take 8 (drop 2 bs)) (bytes_take 8 (drop 2 bs) (bytes_drop 2 bs b)) in
    let v : c < 2 ^ 64 = rw e at u in
    and_from (keeps_rule (steps_of bs)) (fits (steps_of bs)) (fields_rule n a (get_or bs 1 0) c (length (pairs (drop 10 bs))) h k)
    (and_from (ltb c (2 ^ 64)) (all_below (2 ^ 16) (pairs (drop 10 bs))) (lt-ltb c (2 ^ 64) v) (pairs_below (drop 10 bs) (bytes_drop 10 bs b)))
