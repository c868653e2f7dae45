-- What every bench that there is keeps: its data are good, and its places hold them. Assumes nothing.
use Rattle.std.specs.Prelude.{◌≡◌, ℕ, suc, ◌+◌, ◌*◌, ◌/◌, ◌%◌, ◌<◌, ◌≤◌, length, slice_index, slice_index_or, refl}
use Rattle.std.proofs.Common.{sym, ap, ◌∙◌, arith, mul-le-mul}
use Rattle.std.proofs.lemmas.List.{length-map, get_or-map}
use Rattle.plant.specs.Laws.{Lawful}
use Rattle.plant.specs.Options.{none_from_test}
use Rattle.valves.specs.declared.interlock.Interlock.{Interlock}
use Rattle.valves.specs.declared.bench.Bench.{Bench}
use Rattle.valves.specs.Of.{counts_of, interlocks_of, bench_of}
use Rattle.valves.specs.Data.{BenchData}
use Rattle.valves.specs.Positions.{positions, weight}
use Rattle.valves.specs.Tables.{whole, Shares}
use Rattle.valves.specs.Held.{shares_in}
use Rattle.valves.specs.declared.bench.valve.Valve.{Valve}
use Rattle.valves.specs.declared.bench.row.Row.{Row}
use Rattle.valves.specs.Faultless.{data_from_none}
use Rattle.valves.specs.Numbering.{position_digit, weight_more}
use Rattle.valves.specs.BenchLawful.{bench_lawful, settings_few}
use Rattle.valves.specs.Shares.{share_digit}

pub data_of : (b : Bench) → BenchData (counts_of b) (interlocks_of b)
data_of b = data_from_none (counts_of b) (interlocks_of b) (none_from_test _ b.faultless)

pub lawful_of : (b : Bench) → Lawful (bench_of b)
lawful_of b = bench_lawful (counts_of b) (interlocks_of b) (data_of b)

pub counts_length : (b : Bench) → length (counts_of b) ≡ length b.valves.items
counts_length b = length-map b.valves.items _

pub rows_length : (b : Bench) → length (interlocks_of b) ≡ length b.rows.items
rows_length b = length-map b.rows.items _

pub valve_in : (b : Bench) (v : ℕ) → v < length b.valves.items → v < length (counts_of b)
valve_in b v h = omega (arith, counts_length b)

pub count_at : (b : Bench) (v : ℕ) (d : Valve) → v < length b.valves.items → slice_index (counts_of b) v ≡ (slice_index_or b.valves.items v d).positions
count_at b v d h = get_or-map _ b.valves.items v d 0 h

pub weight_at : (b : Bench) (v : ℕ) (d : Valve) → v < length b.valves.items → (slice_index_or b.valves.items v d).weight ≡ weight (counts_of b) v
weight_at b v d h = sym (get_or-map _ b.valves.items v d 0 h) ∙ b.weighs v (valve_in b v h)

pub row_at : (b : Bench) (r : ℕ) (d : Row) (e : Interlock) → r < length b.rows.items → slice_index_or (interlocks_of b) r e ≡ (slice_index_or b.rows.items r d).lock
row_at b r d e h = get_or-map _ b.rows.items r d e h

-- the position of a valve, as the valve gives it
pub digit_at : (b : Bench) (s v : ℕ) (d : Valve) → v < length b.valves.items → s / (slice_index_or b.valves.items v d).weight % (slice_index_or b.valves.items v d).positions ≡ slice_index (positions (counts_of b) s) v
digit_at b s v d h =
    ap (λ x. s / x % (slice_index_or b.valves.items v d).positions) (weight_at b v d h)
    ∙ (ap (λ x. s / weight (counts_of b) v % x) (sym (count_at b v d h)) ∙ sym (position_digit (counts_of b) s v (valve_in b v h)))

pub count_two : (b : Bench) (v : ℕ) (d : Valve) → v < length b.valves.items → 2 ≤ (slice_index_or b.valves.items v d).positions
count_two b v d h = (slice_index_or b.valves.items v d).two

pub count_four : (b : Bench) (v : ℕ) (d : Valve) → v < length b.valves.items → (slice_index_or b.valves.items v d).positions ≤ 4
count_four b v d h = (slice_index_or b.valves.items v d).four

pub weight_some : (b : Bench) (v : ℕ) (d : Valve) → v < length b.valves.items → 0 < (slice_index_or b.valves.items v d).weight
weight_some b v d h = let some = (slice_index_or b.valves.items v d).some in omega arith

-- the same position by the valve's share
pub share_digit_at :
    (b : Bench) (s v : ℕ) (d : Valve) → v < length b.valves.items → s < b.settings
    → s * (slice_index_or b.valves.items v d).share % 18446744073709551616 % whole * (slice_index_or b.valves.items v d).positions / whole ≡ slice_index (positions (counts_of b) s) v
share_digit_at b s v d h inside =
    let x = slice_index_or b.valves.items v d in
    let k = data_of b in
    let few = settings_few (counts_of b) k.valves_most k.four in
    let low : s ≤ 16777216 = omega (arith, b.counts) in
    let wrapped : s * x.share % 18446744073709551616 % whole ≡ s * x.share % whole = omega arith in
    ap (λ y. y * x.positions / whole) (wrapped ∙ ap (λ y. s * y % whole) x.shared)
    ∙ (share_digit whole s x.weight x.positions (omega arith) x.some (omega (arith, x.two)) (omega (arith, mul-le-mul low x.few)) ∙ digit_at b s v d h)

-- a valve, for lemmas that ask for one
pub smallest : Valve
smallest = record {
  positions = 2;
  weight = 1;
  share = 2305843009213693953;
  first = 0;
  two = omega arith;
  four = omega arith;
  some = omega arith;
  few = omega arith;
  shared = refl;
}

-- the shares are those of the weights
pub shares_at : (b : Bench) → Shares (counts_of b) (shares_in b.valves.items)
shares_at b v h =
    let x = slice_index_or b.valves.items v smallest in
    let there : v < length b.valves.items = omega (arith, counts_length b) in
    let whole_weight : x.weight * x.positions ≡ weight (counts_of b) (suc v) =
    ap (λ y. y * x.positions) (weight_at b v smallest there)
    ∙ (ap (λ y. weight (counts_of b) v * y) (sym (count_at b v smallest there)) ∙ sym (weight_more (counts_of b) v h)) in
    get_or-map _ b.valves.items v smallest 0 there ∙ (x.shared ∙ ap (λ y. whole / y + 1) whole_weight)
