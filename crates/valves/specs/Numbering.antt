-- Positions and settings determine each other, and one position of a valve adds its weight. Assumes nothing.
use Rattle.std.specs.Prelude.{◌≡◌, ℕ, zero, suc, ◌+◌, ◌*◌, ◌/◌, ◌%◌, ◌^◌, ◌<◌, ◌≤◌, List, [], ◌∷◌, length, slice_index, slice_set, refl}
use Rattle.std.proofs.Common.{sym, ap, ◌∙◌, subst, arith, lit<, lit≤}
use native.Mathlib.Nat.{mul_comm, mul-add, mul_assoc, mul_left_comm, mul-one, mod-lt, mod-eq_of_lt, div-eq_of_lt, mod-add-div, add-mul-mod_self_left, add-mul-div_left, div-lt_iff_lt-mul, div-div-eq-div-mul, div-one, mul-le-mul_left, mul-le-mul, mul-pos, one-le-pow, pow-succ', pow-le-pow_right}
use Rattle.valves.specs.Positions.{product, setting, positions, weight, Within}

-- each valve has a position
abbrev pub Positive : List ℕ → Type 0
Positive [] = Unit {0}
Positive (n ∷ ns) = (0 < n) × Positive ns

-- the positions at any setting are positions that the valves have
pub positions_within : (ns : List ℕ) (s : ℕ) → Positive ns → Within ns (positions ns s)
positions_within [] s pos = tt
positions_within (n ∷ ns) s pos = (mod-lt s pos.0, positions_within ns (s / n) pos.1)

-- the positions at a setting have that setting
pub setting_positions : (ns : List ℕ) (s : ℕ) → Positive ns → s < product ns → setting ns (positions ns s) ≡ s
setting_positions [] s pos h = omega arith
setting_positions (n ∷ ns) s pos h =
    let below : s / n < product ns = (div-lt_iff_lt-mul pos.0).1 (subst (λ x. s < x) (mul_comm n (product ns)) h) in
    ap (λ x. s % n + n * x) (setting_positions ns (s / n) pos.1 below) ∙ mod-add-div s n

-- the setting of positions has those positions
pub positions_setting : (ns ps : List ℕ) → Within ns ps → positions ns (setting ns ps) ≡ ps
positions_setting [] [] w = refl
positions_setting [] (p ∷ ps) w = absurd w
positions_setting (n ∷ ns) [] w = absurd w
positions_setting (n ∷ ns) (p ∷ ps) w =
    let pos : 0 < n = omega arith in
    let low : (p + n * setting ns ps) % n ≡ p = add-mul-mod_self_left p n (setting ns ps) ∙ mod-eq_of_lt w.0 in
    let high : (p + n * setting ns ps) / n ≡ setting ns ps = add-mul-div_left p (setting ns ps) pos ∙ (ap (λ x. x + setting ns ps) (div-eq_of_lt w.0) ∙ omega arith) in
    ap (λ x. x ∷ positions ns ((p + n * setting ns ps) / n)) low ∙ ap (λ x. p ∷ x) (ap (positions ns) high ∙ positions_setting ns ps w.1)

-- positions that the valves have have a setting in range
pub setting_below : (ns ps : List ℕ) → Within ns ps → setting ns ps < product ns
setting_below [] [] w = omega arith
setting_below [] (p ∷ ps) w = absurd w
setting_below (n ∷ ns) [] w = absurd w
setting_below (n ∷ ns) (p ∷ ps) w =
    let more : n * suc (setting ns ps) ≤ n * product ns = mul-le-mul_left n (setting_below ns ps w.1) in
    let one_more : n * suc (setting ns ps) ≡ n * setting ns ps + n = native.Mathlib.Nat.mul-suc n (setting ns ps) in
    omega (arith, w.0)

-- a valve set to another position that it has
pub within_set : (ns ps : List ℕ) (v q : ℕ) → Within ns ps → q < slice_index ns v → Within ns (slice_set ps v q)
within_set [] [] v q w h = tt
within_set [] (p ∷ ps) v q w h = absurd w
within_set (n ∷ ns) [] v q w h = absurd w
within_set (n ∷ ns) (p ∷ ps) zero q w h = (h, w.1)
within_set (n ∷ ns) (p ∷ ps) (suc v) q w h = (w.0, within_set ns ps v q w.1 h)

pub within_length : (ns ps : List ℕ) → Within ns ps → length ps ≡ length ns
within_length [] [] w = refl
within_length [] (p ∷ ps) w = absurd w
within_length (n ∷ ns) [] w = absurd w
within_length (n ∷ ns) (p ∷ ps) w = ap suc (within_length ns ps w.1)

-- where a valve stands is one of its positions
pub position_below : (ns ps : List ℕ) (v : ℕ) → Within ns ps → v < length ns → slice_index ps v < slice_index ns v
position_below [] ps v w h = absurd (omega arith)
position_below (n ∷ ns) [] v w h = absurd w
position_below (n ∷ ns) (p ∷ ps) zero w h = w.0
position_below (n ∷ ns) (p ∷ ps) (suc v) w h = position_below ns ps v w.1 (omega arith)

-- a valve's position is a digit of the setting
pub position_digit : (ns : List ℕ) (s v : ℕ) → v < length ns → slice_index (positions ns s) v ≡ (s / weight ns v) % slice_index ns v
position_digit [] s v h = absurd (omega arith)
position_digit (n ∷ ns) s zero h = ap (λ x. x % n) (sym (div-one s))
position_digit (n ∷ ns) s (suc v) h =
    position_digit ns (s / n) v (omega arith) ∙ ap (λ x. x % slice_index ns v) (div-div-eq-div-mul s n (weight ns v))

-- a valve set to another position changes the setting by its weight times the difference
pub setting_set : (ns ps : List ℕ) (v q : ℕ) → Within ns ps → v < length ns → setting ns (slice_set ps v q) + weight ns v * slice_index ps v ≡ setting ns ps + weight ns v * q
setting_set [] ps v q w h = absurd (omega arith)
setting_set (n ∷ ns) [] v q w h = absurd w
setting_set (n ∷ ns) (p ∷ ps) zero q w h = omega arith
setting_set (n ∷ ns) (p ∷ ps) (suc v) q w h =
    let rest = setting_set ns ps v q w.1 (omega arith) in
    let times : n * (setting ns (slice_set ps v q) + weight ns v * slice_index ps v) ≡ n * (setting ns ps + weight ns v * q) = ap (λ x. n * x) rest in
    let left = mul-add n (setting ns (slice_set ps v q)) (weight ns v * slice_index ps v) in
    let right = mul-add n (setting ns ps) (weight ns v * q) in
    let deep = mul_assoc n (weight ns v) (slice_index ps v) in
    let wide = mul_assoc n (weight ns v) q in
    omega arith

-- one valve more multiplies the weight by its number of positions
pub weight_more : (ns : List ℕ) (v : ℕ) → v < length ns → weight ns (suc v) ≡ weight ns v * slice_index ns v
weight_more [] v h = absurd (omega arith)
weight_more (n ∷ ns) zero h = omega (arith, mul-one n)
weight_more (n ∷ ns) (suc v) h = ap (λ x. n * x) (weight_more ns v (omega arith)) ∙ sym (mul_assoc n (weight ns v) (slice_index ns v))

-- the weight of all valves is the number of settings
pub weight_all : (ns : List ℕ) → weight ns (length ns) ≡ product ns
weight_all [] = refl
weight_all (n ∷ ns) = ap (λ x. n * x) (weight_all ns)

pub weight_positive : (ns : List ℕ) (v : ℕ) → Positive ns → 0 < weight ns v
weight_positive ns zero pos = omega arith
weight_positive [] (suc v) pos = omega arith
weight_positive (n ∷ ns) (suc v) pos = mul-pos pos.0 (weight_positive ns v pos.1)

-- each valve multiplies the weight by at most four
pub weight_most : (ns : List ℕ) (v : ℕ) → ((i : ℕ) → i < length ns → slice_index ns i ≤ 4) → weight ns v ≤ 4 ^ v
weight_most ns zero four = lit≤ tt
weight_most [] (suc v) four = one-le-pow (suc v) 4 (lit< tt)
weight_most (n ∷ ns) (suc v) four =
    subst (λ x. n * weight ns v ≤ x) (sym (pow-succ' 4 v)) (mul-le-mul (four 0 (omega arith)) (weight_most ns v (λ i h. four (suc i) (omega arith))))

-- so a weight of at most twelve valves is at most 4 to the power of 12
pub weight_few : (ns : List ℕ) (v : ℕ) → v ≤ 12 → ((i : ℕ) → i < length ns → slice_index ns i ≤ 4) → weight ns v ≤ 16777216
weight_few ns v few four =
    let power : 4 ^ v ≤ 4 ^ 12 = pow-le-pow_right (lit< tt) few in
    omega (arith, weight_most ns v four)
