-- What no fault of a body says of the bench that it describes. Assumes nothing.
use Rattle.std.proofs.Common.{◌≡◌, ℕ, ◌≤◌, List, length, is_some, None, Ok, Err, Result, sym, subst, ap, ◌∙◌, take_all, arith}
use Rattle.std.specs.Option.{option_map}
use Rattle.std.specs.Result.{result_ok}
use Rattle.valves.specs.declared.fault.BenchFault.{BenchFault}
use Rattle.valves.specs.declared.interlock.Interlock.{Interlock}
use Rattle.valves.specs.declared.bench.Bench.{Bench}
use Rattle.valves.specs.Bench.{bench}
use Rattle.valves.specs.Faults.{bench_fault}
use Rattle.valves.specs.Of.{counts_of, interlocks_of, Makes}
use Rattle.valves.specs.Faultless.{data_from_none}
use Rattle.plant_bodies.specs.declared.bench_body.ValvesFault.TheVariants.{Length, Bench as Wrong}
use Rattle.plant_bodies.specs.BenchRule.{valves_in, body_positions, body_interlocks, bench_long, BenchSays, valves_fault}
use Rattle.plant_bodies.proofs.Benches.{said_fault}
use Rattle.plants_read.proofs.Passed.{passed}
use Rattle.plants_read.specs.Benches.{BenchMade, ReadsBench}

-- no fault of the body is none of the plant
pub body_faultless : (bs : List ℕ) → None ≡ valves_fault bs → bench_fault (body_positions bs) (body_interlocks bs) ≡ None
body_faultless bs e = passed (bench_long bs) Length (Wrong (valves_in bs)) (bench_fault (body_positions bs) (body_interlocks bs)) e

-- the parts make the bench of the body
module _ (bs ns : List ℕ) (ls : List Interlock) (says : BenchSays bs ns ls) where
  made : (b : Bench) → Makes ns ls (Ok b) → BenchMade bs b
  made b m =
      let right : valves_fault bs ≡ None = sym (said_fault bs ns ls says) ∙ ap (option_map (Wrong (valves_in bs))) m.0 in
      let few : length (body_interlocks bs) ≤ 32 = (data_from_none (body_positions bs) (body_interlocks bs) (body_faultless bs (sym right))).rows_most in
      let counts : counts_of b ≡ body_positions bs = m.1 ∙ says.positions in
      let locks : interlocks_of b ≡ body_interlocks bs = m.2 ∙ (says.interlocks ∙ take_all 33 (body_interlocks bs) (omega arith)) in
      record {
        faultless = right;
        counts = counts;
        locks = locks;
        means = ap (λ ms. bench ms (interlocks_of b)) counts ∙ ap (bench (body_positions bs)) locks;
      }

  read_parts : (r : Result Bench BenchFault) → Makes ns ls r → ReadsBench bs (result_ok r)
  read_parts (Ok b) m = made b m
  read_parts (Err f) m = ap is_some (sym (said_fault bs ns ls says) ∙ ap (option_map (Wrong (valves_in bs))) m)

-- from whatever holds them
pub read : (bs ns : List ℕ) (held ls : List Interlock) (r : Result Bench BenchFault) → Makes ns held r → BenchSays bs ns ls → held ≡ ls → ReadsBench bs (result_ok r)
read bs ns held ls r m says same = read_parts bs ns held (subst (BenchSays bs ns) (sym same) says) r m
