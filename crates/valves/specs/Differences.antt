-- The sum of the differences of position: its size, and how one move changes it. Assumes nothing.
use Rattle.std.specs.Prelude.{◌≡◌, ℕ, zero, suc, ◌+◌, ◌-◌, ◌*◌, ◌<◌, ◌≤◌, List, [], ◌∷◌, length, drop, slice_index, slice_set, refl, ◌/◌, ◌%◌}
use Rattle.std.proofs.Common.{ap, ◌∙◌, arith, mod-lt}
use Rattle.std.proofs.lemmas.List.{drop_more, drop_all}
use Rattle.valves.specs.Positions.{apart, Within, positions}

pub apart_same : (ps : List ℕ) → apart ps ps ≡ 0
apart_same [] = refl
apart_same (p ∷ ps) = let rest = apart_same ps in omega arith

pub apart_most : (ns ps qs : List ℕ) → ((i : ℕ) → i < length ns → slice_index ns i ≤ 4) → Within ns ps → Within ns qs → apart ps qs ≤ 3 * length ns
apart_most [] [] qs four w z = omega arith
apart_most [] (p ∷ ps) qs four w z = absurd w
apart_most (n ∷ ns) [] qs four w z = absurd w
apart_most (n ∷ ns) (p ∷ ps) [] four w z = absurd z
apart_most (n ∷ ns) (p ∷ ps) (q ∷ qs) four w z =
    let rest = apart_most ns ps qs (λ i h. four (suc i) (omega arith)) w.1 z.1 in
    omega (arith, four 0 (omega arith), w.0, z.0)

-- one valve moved by at most one position brings the sum down by at most one
pub apart_falls : (ps qs : List ℕ) (v q : ℕ) → q ≤ suc (slice_index ps v) → slice_index ps v ≤ suc q → apart ps qs ≤ suc (apart (slice_set ps v q) qs)
apart_falls [] qs v q a b = omega arith
apart_falls (p ∷ ps) [] v q a b = omega arith
apart_falls (p ∷ ps) (r ∷ qs) zero q a b = omega arith
apart_falls (p ∷ ps) (r ∷ qs) (suc v) q a b = let rest = apart_falls ps qs v q a b in omega arith

-- the differences from valve v on are that of valve v and those behind it
pub apart_next : (ps qs : List ℕ) (v : ℕ) → v < length ps → v < length qs → apart (drop v ps) (drop v qs) ≡ ((slice_index ps v - slice_index qs v) + (slice_index qs v - slice_index ps v)) + apart (drop (v + 1) ps) (drop (v + 1) qs)
apart_next ps qs v h k = ap (λ x. apart x (drop v qs)) (drop_more ps v 0 h) ∙ ap (apart (slice_index ps v ∷ drop (v + 1) ps)) (drop_more qs v 0 k)

pub apart_over : (ps qs : List ℕ) (v : ℕ) → length ps ≤ v → apart (drop v ps) (drop v qs) ≡ 0
apart_over ps qs v h = ap (λ x. apart x (drop v qs)) (drop_all v ps h)

-- the difference at one valve of n positions, with the settings as far as they are still to be read
abbrev pub gap : ℕ → ℕ → ℕ → ℕ
gap n here there = (here % n - there % n) + (there % n - here % n)

pub gap_most : (n here there : ℕ) → 0 < n → n ≤ 4 → gap n here there ≤ 3
gap_most n here there some four = let a = mod-lt here some in let b = mod-lt there some in omega arith

-- the differences from valve v on are that of valve v and those behind it
pub apart_more : (ns : List ℕ) (v here there n : ℕ) → v < length ns → slice_index ns v ≡ n → apart (positions (drop v ns) here) (positions (drop v ns) there) ≡ gap n here there + apart (positions (drop (v + 1) ns) (here / n)) (positions (drop (v + 1) ns) (there / n))
apart_more ns v here there n h is =
    let d : drop v ns ≡ n ∷ drop (v + 1) ns = drop_more ns v 0 h ∙ ap (λ x. x ∷ drop (v + 1) ns) is in
    ap (λ x. apart (positions x here) (positions x there)) d

pub apart_done : (ns : List ℕ) (v here there : ℕ) → length ns ≤ v → apart (positions (drop v ns) here) (positions (drop v ns) there) ≡ 0
apart_done ns v here there h = ap (λ x. apart (positions x here) (positions x there)) (drop_all v ns h)
