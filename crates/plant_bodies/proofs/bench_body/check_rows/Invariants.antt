-- What is left gives the first fault of all.
use Rattle.std.proofs.Common.{◌≡◌, ◌/◌, length, map, drop}
use Rattle.valves.specs.Faults.{interlocks_fault, bench_fault}
use Rattle.plant_bodies.specs.Rows.{interlock}
use Rattle.plant_bodies.specs.BenchRule.{interlocks_in}
use Rattle.plant_bodies.proofs.bench_body.check_rows.Given as goal

abbrev pub invariant-loop-row : goal.invariant-loop-row
invariant-loop-row l = interlocks_fault l.positions (map interlock (drop l.row l.fours)) l.row ≡ bench_fault l.positions (interlocks_in (length l.rows / 4) l.rows)
