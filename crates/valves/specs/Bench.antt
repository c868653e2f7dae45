-- What a valve bench means, by the numbers of positions of its valves and its interlocks. Assumes nothing.
use Rattle.std.specs.Prelude.{ℕ, ◌+◌, ◌-◌, ◌*◌, ◌/◌, ◌%◌, cond, ◌&&◌, List, length, Some, None, Option, ◌==◌, nat_lt, slice_index, slice_set}
use Rattle.plant.specs.Meaning.{Meaning}
use Rattle.valves.specs.declared.interlock.Interlock.{Interlock}
use Rattle.valves.specs.Positions.{product, setting, positions, apart}
use Rattle.valves.specs.Interlocks.{barred}

-- one position up from p of n, and one down from p: not past an end
abbrev pub raised : ℕ → ℕ → Option ℕ
raised n p = cond (nat_lt (p + 1) n) (Some (p + 1)) None

abbrev pub lowered : ℕ → Option ℕ
lowered p = cond (nat_lt 0 p) (Some (p - 1)) None

-- the setting after valve v goes from position p to another one, unless an interlock bars it
abbrev pub landed : List ℕ → List Interlock → ℕ → List ℕ → ℕ → Option ℕ → Option ℕ
landed ns locks v ps p None = None
landed ns locks v ps p (Some q) = cond (barred v p q ps locks) None (Some (setting ns (slice_set ps v q)))

-- valve v one position up, and one down
abbrev pub gone_up : List ℕ → List Interlock → List ℕ → ℕ → Option ℕ
gone_up ns locks ps v = landed ns locks v ps (slice_index ps v) (raised (slice_index ns v) (slice_index ps v))

abbrev pub gone_down : List ℕ → List Interlock → List ℕ → ℕ → Option ℕ
gone_down ns locks ps v = landed ns locks v ps (slice_index ps v) (lowered (slice_index ps v))

-- operation o moves valve o / 2, up if it is even and down if it is odd
abbrev pub turned : List ℕ → List Interlock → List ℕ → ℕ → Option ℕ
turned ns locks ps o = cond (o % 2 == 0) (gone_up ns locks ps (o / 2)) (gone_down ns locks ps (o / 2))

-- the step of the bench: none out of range
abbrev pub bench_step : List ℕ → List Interlock → ℕ → ℕ → Option ℕ
bench_step ns locks s o = cond (nat_lt s (product ns) && nat_lt o (2 * length ns)) (turned ns locks (positions ns s) o) None

-- up and down of a valve are each other's reverse
abbrev pub bench_reverse : List ℕ → ℕ → ℕ
bench_reverse ns o = cond (nat_lt o (2 * length ns)) (cond (o % 2 == 0) (o + 1) (o - 1)) o

-- the sum of the differences of position
abbrev pub bench_estimate : List ℕ → ℕ → ℕ → ℕ
bench_estimate ns s t = cond (nat_lt s (product ns) && nat_lt t (product ns)) (apart (positions ns s) (positions ns t)) 0

abbrev pub bench : List ℕ → List Interlock → Meaning
bench ns locks = record {
  settings = product ns;
  operations = 2 * length ns;
  step = bench_step ns locks;
  reverse = bench_reverse ns;
  estimate = bench_estimate ns;
}
