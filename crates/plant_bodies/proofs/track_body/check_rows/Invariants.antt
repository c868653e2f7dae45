-- What is left gives the first fault of all.
use Rattle.std.proofs.Common.{◌≡◌, ◌/◌, length, map, drop}
use Rattle.track.specs.Fault.{rows_fault, fault}
use Rattle.plant_bodies.specs.Rows.{link}
use Rattle.plant_bodies.specs.TrackRule.{links_in}
use Rattle.plant_bodies.proofs.track_body.check_rows.Given as goal

abbrev pub invariant-loop-row : goal.invariant-loop-row
invariant-loop-row l = rows_fault l.stations l.row (map link (drop l.row l.fours)) ≡ fault l.stations (links_in (length l.rows / 4) l.rows)
