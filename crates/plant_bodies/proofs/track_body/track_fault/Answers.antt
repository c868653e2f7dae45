-- The track's fault is that of its body.
use Rattle.std.proofs.Common.{refl, ap, ◌∙◌, arith}
use Rattle.std.specs.Option.{option_map}
use Rattle.numbers.proofs.Fields.{field_2}
use Rattle.plant_bodies.specs.declared.track_body.TrackBodyFault.TheVariants.{Track}
use Rattle.plant_bodies.proofs.Tracks.{parts_fault}
use Rattle.plant_bodies.proofs.track_body.track_fault.Goals as goal

pub returns-in_err-fault : goal.returns-in_err-fault
returns-in_err-fault c =
    let bs = c.args.body.now in
    c.from_residual.ensures
    ∙ (ap (option_map Track) (c.in_err-fault.ensures.value ∙ c.check_rows.ensures)
    ∙ parts_fault bs _ c.word-stations.result c.word-count.result c.in-len4-up.len_at_least (omega (arith, field_2 0 bs)) (omega (arith, field_2 2 bs)) refl c.if-rows-count.false)

pub returns : goal.returns
returns c =
    let bs = c.args.body.now in
    ap (option_map Track) (c.in_ok-fault.ensures.value ∙ c.check_rows.ensures)
    ∙ parts_fault bs _ c.word-stations.result c.word-count.result c.in-len4-up.len_at_least (omega (arith, field_2 0 bs)) (omega (arith, field_2 2 bs)) refl c.if-rows-count.false
