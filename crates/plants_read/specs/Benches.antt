-- The bench that a body describes, and what making it answers. Assumes nothing.
use Rattle.std.specs.Prelude.{◌≡◌, ℕ, true, List, is_some, Some, None, Option}
use Rattle.plant.specs.Meaning.{Meaning}
use Rattle.valves.specs.declared.bench.Bench.{Bench}
use Rattle.valves.specs.Bench.{bench}
use Rattle.valves.specs.Of.{counts_of, interlocks_of, bench_of}
use Rattle.plant_bodies.specs.BenchRule.{body_positions, body_interlocks, valves_fault}

-- the plant that the bytes of a body describe
abbrev pub bench_described : List ℕ → Meaning
bench_described bs = bench (body_positions bs) (body_interlocks bs)

-- a bench of just the numbers of positions and the interlocks of a body, which has no fault
pub record BenchMade (bs : List ℕ) (b : Bench) : Type 0 where
  pub faultless : valves_fault bs ≡ None
  pub counts : counts_of b ≡ body_positions bs
  pub locks : interlocks_of b ≡ body_interlocks bs
  pub means : bench_of b ≡ bench_described bs

-- the bench where the body has no fault, and none where it has one
abbrev pub ReadsBench : List ℕ → Option Bench → Type 0
ReadsBench bs (Some b) = BenchMade bs b
ReadsBench bs None = is_some (valves_fault bs) ≡ true
