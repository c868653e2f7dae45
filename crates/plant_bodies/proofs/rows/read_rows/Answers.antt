-- A turn reads one row more, until none is left or there is no more room.
use Rattle.std.proofs.Common.{◌≡◌, ◌/◌, length, ap, ◌∙◌, arith}
use Rattle.std.specs.Simd.{first_chunks}
use Rattle.plant_bodies.proofs.RowByRow.{rows_begun, row_read, rows_read}
use Rattle.plant_bodies.proofs.rows.read_rows.Goals as goal

pub loop-four-init : goal.loop-four-init
loop-four-init g c =
    let made = c.into_iter-four-iterator.ensures.into_iter_gives in
    let count : c.into_iter-four-iterator.result.n ≡ g.row.MOST = ap (λ t. t.n) made ∙ c.take-four-items.ensures.count in
    let source : c.into_iter-four-iterator.result.iter ≡ c.iter.result = ap (λ t. t.iter) made ∙ c.take-four-items.ensures.source in
    let all : c.iter.result.rest.now ≡ first_chunks 4 (length c.args.bytes.now / 4) c.args.bytes.now = c.iter.ensures.rest ∙ c.as_chunks.ensures.front in
    let fours : c.into_iter-four-iterator.result.iter.rest.now ≡ first_chunks 4 (length c.args.bytes.now / 4) c.args.bytes.now = ap (λ i. i.rest.now) source ∙ all in
    (rows_begun g.R.Row.said g.met.R.Row.alone g.row.MOST _ _ _ c.args.bytes.now _ fours count c.clear.ensures, omega (arith, ap length c.clear.ensures, count))

pub loop-four-preserved : goal.loop-four-preserved
loop-four-preserved g c = (
  row_read g.R.Row.said c.loop-four.rows.items _ c.loop-four.four-iterator.n c.loop-four.four-iterator.iter.rest.now c.in-Some.four.now _ _ _ _
      c.in-Some.ensures.steps.0 c.in-Some.ensures.steps.1 c.of.ensures c.push.ensures.items c.loop-four.invariant.0,
  omega (arith, c.loop-four.invariant.1, c.in-Some.ensures.steps.1, c.push.ensures.len),
)

pub returns : goal.returns
returns g c =
    rows_read g.R.Row.said c.loop-four.rows.items _ c.loop-four.four-iterator.n c.loop-four.four-iterator.iter.rest.now
    (λ h. (c.in-None.ensures.steps h).0) c.loop-four.invariant.0
