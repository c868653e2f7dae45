-- None of the records passed has the setting.
use Rattle.std.proofs.Common.{◌≡◌, map, drop}
use Rattle.legs.specs.Layers.{has}
use Rattle.search.proofs.lookup.stands.Given as goal

abbrev pub invariant-loop-record : goal.invariant-loop-record
invariant-loop-record g l = has (map g.R.Record.tells (drop l.record-index l.records)) l.setting ≡ has (map g.R.Record.tells l.records) l.setting
