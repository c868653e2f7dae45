-- The rows read so far, with those that are left behind them, are all; and so many more are taken as there is room for.
use Rattle.std.proofs.Common.{◌≡◌, ◌+◌, ◌/◌, ◌++◌, length, map, take}
use Rattle.plant_bodies.specs.Rows.{rows_in}
use Rattle.plant_bodies.proofs.rows.read_rows.Given as goal

abbrev pub invariant-loop-four : goal.invariant-loop-four
invariant-loop-four g l =
    (l.rows.items ++ take l.four-iterator.n (map g.R.Row.said l.four-iterator.iter.rest.now) ≡ take g.row.MOST (rows_in g.R.Row.said (length l.bytes / 4) l.bytes))
    × (length l.rows.items + l.four-iterator.n ≡ g.row.MOST)
