-- The checks of a bench's body, where one interlock more than a bench has is read at most. Assumes nothing.
use Rattle.std.proofs.Common.{◌≡◌, ℕ, ◌+◌, ◌-◌, ◌*◌, ◌/◌, ◌<◌, ◌≤◌, cond, not, ◌||◌, ltb, List, length, take, drop, Some, sym, ap, ◌∙◌, arith, length-drop}
use Rattle.std.specs.Option.{option_map}
use Rattle.std.proofs.lemmas.List.{length-take-le, take_rest, drop-drop}
use Rattle.std.proofs.lemmas.Bool.{cond-true, lt-ltb, eqb-true, eq-eqb}
use Rattle.valves.specs.declared.interlock.Interlock.{Interlock}
use Rattle.valves.specs.declared.fault.BenchFault.TheVariants as bench
use Rattle.valves.specs.Faults.{bench_fault}
use Rattle.plant_bodies.specs.declared.bench_body.ValvesFault.TheVariants.{Length, Bench}
use Rattle.plant_bodies.specs.Rows.{rows_in, interlock}
use Rattle.plant_bodies.specs.BenchRule.{valves_in, interlock_count, body_positions, body_interlocks, BenchSays, valves_fault}
use Rattle.plant_bodies.proofs.Enough.{enough}

-- too many interlocks are told by their number
many : (ns : List ℕ) (ls : List Interlock) → 32 < length ls → bench_fault ns ls ≡ cond (ltb (length ns) 1 || ltb 12 (length ns)) (Some bench.Valves) (Some bench.Interlocks)
many ns ls h = ap (cond (ltb (length ns) 1 || ltb 12 (length ns)) (Some bench.Valves)) (cond-true (ltb 32 (length ls)) (Some bench.Interlocks) _ (lt-ltb 32 (length ls) h))

-- so the first 33 have the fault of all
pub first_enough : (ns : List ℕ) (ls : List Interlock) → bench_fault ns (take 33 ls) ≡ bench_fault ns ls
first_enough ns ls = enough 32 _ (bench_fault ns) (many ns) ls

-- the parts of a body
pub parts_said : (bs positions rows : List ℕ) (ls : List Interlock) → 2 ≤ length bs →
    length (take (length bs - 2) (drop 2 bs)) ≡ valves_in bs + 4 * interlock_count bs →
    positions ≡ take (valves_in bs) (take (length bs - 2) (drop 2 bs)) → rows ≡ drop (valves_in bs) (take (length bs - 2) (drop 2 bs)) →
    ls ≡ take 33 (rows_in interlock (length rows / 4) rows) → BenchSays bs positions ls
parts_said bs positions rows ls h e p q l =
    let v = valves_in bs in
    let r = interlock_count bs in
    let behind = take_rest bs 2 in
    let whole : length bs ≡ 2 + (v + 4 * r) = omega (arith, e, ap length behind ∙ length-drop 2 bs) in
    let s : rows ≡ drop (2 + v) bs = q ∙ (ap (drop v) behind ∙ drop-drop v 2 bs) in
    let n : length rows / 4 ≡ r = omega (arith, whole, ap length s ∙ length-drop (2 + v) bs) in
    record {
      long = eq-eqb (length bs) _ whole;
      positions = p ∙ ap (take v) behind;
      interlocks = l ∙ (ap (λ k. take 33 (rows_in interlock k rows)) n ∙ ap (λ xs. take 33 (rows_in interlock r xs)) s);
    }

-- the fault of the parts is that of the body
pub said_fault : (bs ns : List ℕ) (ls : List Interlock) → BenchSays bs ns ls → option_map (Bench (valves_in bs)) (bench_fault ns ls) ≡ valves_fault bs
said_fault bs ns ls s =
    ap (option_map (Bench (valves_in bs)))
    (ap (λ ms. bench_fault ms ls) s.positions ∙ (ap (bench_fault (body_positions bs)) s.interlocks ∙ first_enough (body_positions bs) (body_interlocks bs)))
    ∙ sym (ap (λ b. cond (not b) (Some Length) (option_map (Bench (valves_in bs)) (bench_fault (body_positions bs) (body_interlocks bs)))) s.long)
