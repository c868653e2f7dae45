-- The rows from `at` on bar the move exactly where all rows do.
use Rattle.std.proofs.Common.{◌-◌, length}
use Rattle.valves.specs.Of.{placed}
use Rattle.valves.proofs.Rows.{AtRow}
use Rattle.valves.proofs.bench.at.ValveAt.barred.Given as goal

abbrev pub invariant-loop-row : goal.invariant-loop-row
invariant-loop-row l = AtRow l.self.bench.now l.self.valve l.from l.to (placed l.self.bench.now l.self.setting) l.at

abbrev pub decreases-loop-row : goal.decreases-loop-row
decreases-loop-row l = length l.self.bench.now.rows.items - l.at
