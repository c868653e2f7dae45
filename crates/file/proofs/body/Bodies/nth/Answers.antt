-- A turn passes one row; the loop ends at the one that was looked for.
use Rattle.std.proofs.Common.{◌≡◌, ◌+◌, suc, length, ap, ◌∙◌, arith}
use Rattle.std.proofs.lemmas.Grind.{common_steps}
use Rattle.std.specs.List.{slice_get}
use Rattle.file.specs.Contents.{rows_length}
use Rattle.file.specs.Taken.{parts_left}
use Rattle.file.proofs.BodyByBody.{none_past, behind_row, first_is}
use Rattle.file.proofs.body.Bodies.nth.Goals as goal

pub loop-before-preserved : goal.loop-before-preserved
loop-before-preserved c =
    let further : (c.loop-before.place + c.in-Some.row.length) + rows_length c.in-Some.after.left c.in-Some.after.bytes.now ≡ length c.args.self.file.now =
    grind (arith, common_steps) in
    record {
      there = omega (arith, c.in-Some.ensures.left);
      whole = omega arith;
      entries = λ k.
          let same : c.loop-before._before + suc k ≡ (c.loop-before._before + 1) + k = omega arith in
          behind_row c.loop-before.rows _ _ c.in-Some.ensures c.loop-before.place _ c.args.self.file.now k (omega arith)
          ∙ (c.loop-before.invariant.entries (suc k) ∙ ap (slice_get (parts_left c.args.self)) same);
    }

pub returns : goal.returns
returns c =
    let same : c.loop-before._before + 0 ≡ c.args.number = omega arith in
    first_is _ _ _ _ c.in-Some-split_first.ensures (c.loop-before.invariant.entries 0 ∙ ap (slice_get (parts_left c.args.self)) same)

pub returns-then-number-self : goal.returns-then-number-self
returns-then-number-self c = rw (none_past c.args.self c.args.number c.if-number-self.true) tt
