-- The checks of a bench in two parts: what comes before the interlocks, and the interlocks. Assumes nothing.
use Rattle.std.proofs.Common.{◌≡◌, ℕ, Bool, true, false, cond, ◌||◌, ltb, List, length, Some, None, Option, sym, refl, ap, ◌∙◌}
use Rattle.valves.specs.declared.interlock.Interlock.{Interlock}
use Rattle.valves.specs.declared.fault.BenchFault.{BenchFault}
use Rattle.valves.specs.declared.fault.BenchFault.TheVariants.{Valves, Interlocks}
use Rattle.valves.specs.Faults.{either_fault, positions_fault, interlocks_fault, sizes_fault, bench_fault}

by_tests : (a b : Bool) (f g : Option BenchFault) → cond a (Some Valves) (cond b (Some Interlocks) (either_fault f g)) ≡ either_fault (cond a (Some Valves) (cond b (Some Interlocks) f)) g
by_tests true b f g = refl
by_tests false true f g = refl
by_tests false false f g = refl

pub bench_parts : (ns : List ℕ) (ls : List Interlock) → bench_fault ns ls ≡ either_fault (sizes_fault ns (length ls)) (interlocks_fault ns ls 0)
bench_parts ns ls = by_tests (ltb (length ns) 1 || ltb 12 (length ns)) (ltb 32 (length ls)) (positions_fault ns 0) (interlocks_fault ns ls 0)

module _ (ns : List ℕ) (n : ℕ) (ls : List Interlock) (many : n ≡ length ls) where
  parts : bench_fault ns ls ≡ either_fault (sizes_fault ns n) (interlocks_fault ns ls 0)
  parts = bench_parts ns ls ∙ ap (λ k. either_fault (sizes_fault ns k) (interlocks_fault ns ls 0)) (sym many)

  -- what is wrong before the interlocks is the fault
  pub sizes_wrong : (f : BenchFault) → Some f ≡ sizes_fault ns n → Some f ≡ bench_fault ns ls
  sizes_wrong f e = ap (λ o. either_fault o (interlocks_fault ns ls 0)) e ∙ sym parts

  -- else the interlocks tell
  pub sizes_right : None ≡ sizes_fault ns n → interlocks_fault ns ls 0 ≡ bench_fault ns ls
  sizes_right e = ap (λ o. either_fault o (interlocks_fault ns ls 0)) e ∙ sym parts
