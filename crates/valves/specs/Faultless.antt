-- Data have no fault exactly where they make a bench. Assumes nothing.
use Rattle.std.specs.Prelude.{◌≡◌, ℕ, zero, suc, ◌<◌, ◌≤◌, List, [], ◌∷◌, length, None, slice_index, slice_index_or, refl}
use Rattle.std.proofs.Common.{ap, ◌∙◌, arith}
use Rattle.std.proofs.lemmas.Bool.Decides.{nat_tests}
use Rattle.plant.specs.Options.{neither}
use Rattle.valves.specs.declared.interlock.Interlock.{Interlock}
use Rattle.valves.specs.Faults.{either_fault, positions_fault, interlock_fault, interlocks_fault, bench_fault}
use Rattle.valves.specs.Data.{Ranged, BenchData}

count_none : (n v : ℕ) (ns : List ℕ) → positions_fault (n ∷ ns) v ≡ None → (2 ≤ n) × (n ≤ 4) × (positions_fault ns (suc v) ≡ None)
count_none n v ns e = (grind (arith, nat_tests), grind (arith, nat_tests), grind (arith, nat_tests))

pub positions_none : (ns : List ℕ) (v : ℕ) → positions_fault ns v ≡ None → (i : ℕ) → i < length ns → (2 ≤ slice_index ns i) × (slice_index ns i ≤ 4)
positions_none [] v e i h = absurd (omega arith)
positions_none (n ∷ ns) v e zero h = let k = count_none n v ns e in (k.0, k.1)
positions_none (n ∷ ns) v e (suc i) h = positions_none ns (suc v) (count_none n v ns e).2 i (omega arith)

pub interlock_none : (ns : List ℕ) (l : Interlock) (r : ℕ) → interlock_fault ns l r ≡ None → Ranged ns l
interlock_none ns l r e = record {
  valve = grind (arith, nat_tests);
  position = grind (arith, nat_tests);
  other = grind (arith, nat_tests);
  different = λ s. grind (arith, nat_tests);
  stands = grind (arith, nat_tests);
}

pub interlocks_none : (ns : List ℕ) (ls : List Interlock) (r : ℕ) → interlocks_fault ns ls r ≡ None → (i : ℕ) (d : Interlock) → i < length ls → Ranged ns (slice_index_or ls i d)
interlocks_none ns [] r e i d h = absurd (omega arith)
interlocks_none ns (l ∷ ls) r e zero d h = interlock_none ns l r (neither _ _ e).0
interlocks_none ns (l ∷ ls) r e (suc i) d h = interlocks_none ns ls (suc r) (neither _ _ e).1 i d (omega arith)

-- what has no fault makes a bench
pub data_from_none : (ns : List ℕ) (ls : List Interlock) → bench_fault ns ls ≡ None → BenchData ns ls
data_from_none ns ls e =
    let both : either_fault (positions_fault ns 0) (interlocks_fault ns ls 0) ≡ None = grind (arith, nat_tests) in
    let each = positions_none ns 0 (neither _ _ both).0 in
    record {
      valves_some = grind (arith, nat_tests);
      valves_most = grind (arith, nat_tests);
      two = λ v h. (each v h).0;
      four = λ v h. (each v h).1;
      rows_most = grind (arith, nat_tests);
      ranged = interlocks_none ns ls 0 (neither _ _ both).1;
    }

none_of_positions : (ns : List ℕ) (v : ℕ) → ((i : ℕ) → i < length ns → 2 ≤ slice_index ns i) → ((i : ℕ) → i < length ns → slice_index ns i ≤ 4) → positions_fault ns v ≡ None
none_of_positions [] v two four = refl
none_of_positions (n ∷ ns) v two four =
    let low : 2 ≤ n = two 0 (omega arith) in
    let high : n ≤ 4 = four 0 (omega arith) in
    let rest : positions_fault ns (suc v) ≡ None = none_of_positions ns (suc v) (λ i h. two (suc i) (omega arith)) (λ i h. four (suc i) (omega arith)) in
    rest_none n v ns low high rest
  where
    rest_none : (n v : ℕ) (ns : List ℕ) → 2 ≤ n → n ≤ 4 → positions_fault ns (suc v) ≡ None → positions_fault (n ∷ ns) v ≡ None
    rest_none n v ns low high rest = grind (arith, nat_tests)

none_of_interlock : (ns : List ℕ) (l : Interlock) (r : ℕ) → Ranged ns l → interlock_fault ns l r ≡ None
none_of_interlock ns l r k = grind (arith, nat_tests)

none_of_interlocks : (ns : List ℕ) (ls : List Interlock) (r : ℕ) → ((i : ℕ) (d : Interlock) → i < length ls → Ranged ns (slice_index_or ls i d)) → interlocks_fault ns ls r ≡ None
none_of_interlocks ns [] r each = refl
none_of_interlocks ns (l ∷ ls) r each =
    ap (λ x. either_fault x (interlocks_fault ns ls (suc r))) (none_of_interlock ns l r (each 0 l (omega arith)))
    ∙ none_of_interlocks ns ls (suc r) (λ i d h. each (suc i) d (omega arith))

-- what makes a bench has no fault
pub none_from_data : (ns : List ℕ) (ls : List Interlock) → BenchData ns ls → bench_fault ns ls ≡ None
none_from_data ns ls k =
    let both : either_fault (positions_fault ns 0) (interlocks_fault ns ls 0) ≡ None =
    ap (λ x. either_fault x (interlocks_fault ns ls 0)) (none_of_positions ns 0 k.two k.four) ∙ none_of_interlocks ns ls 0 k.ranged in
    grind (arith, nat_tests)
