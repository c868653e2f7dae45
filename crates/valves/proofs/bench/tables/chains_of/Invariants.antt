-- The chains of the rows from `row` on.
use Rattle.std.proofs.Common.{◌≡◌, ℕ, suc, ◌<◌, ◌≤◌, length, get_or}
use Rattle.valves.specs.declared.interlock.Interlock.{Interlock}
use Rattle.valves.specs.Interlocks.{row_from}
use Rattle.valves.proofs.bench.tables.chains_of.Given as goal

abbrev pub invariant-loop-row : goal.invariant-loop-row
invariant-loop-row l =
    (length l.first ≡ 12) × (length l.following ≡ 32) × (l.row ≤ length l.interlocks) × ((v : ℕ) → v < 12 → get_or l.first v 0 ≡ row_from l.interlocks v l.row)
    × ((r : ℕ) (d : Interlock) → l.row ≤ r → r < length l.interlocks → get_or l.following r 0 ≡ row_from l.interlocks (get_or l.interlocks r d).valve (suc r))

abbrev pub decreases-loop-row : goal.decreases-loop-row
decreases-loop-row l = l.row
