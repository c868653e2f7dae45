-- The pair of bytes at a place, or none behind the last.
use Rattle.std.proofs.Common.{[], get_or, ap, ◌∙◌, arith, ltb-false, sym}
use Rattle.bodies.proofs.Pairs.{pairs_past, pair_at}
use Rattle.bodies.proofs.steps_body.operation.Goals as goal

pub returns-in_err-low : goal.returns-in_err-low
returns-in_err-low c =
    c.from_residual.ensures ∙ pairs_past c.args.operations.now c.args.place (omega (arith, ltb-false _ _ (sym c.in_err-low.ensures.lookup.0), c.as_chunks.ensures.front_len))

pub returns : goal.returns
returns c =
    let there = c.in_ok-low.ensures.lookup.3 in
    pair_at c.args.operations.now _ c.args.place _ (omega (arith, there.0, c.as_chunks.ensures.front_len))
    (there.1 [] ∙ ap (λ ps. get_or ps c.args.place []) c.as_chunks.ensures.front) c.word.ensures
