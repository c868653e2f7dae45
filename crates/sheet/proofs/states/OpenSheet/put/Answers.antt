-- What is left is the sheet of one body more.
use Rattle.std.proofs.Common.{◌≡◌, ℕ, ◌<◌, true, List, [], ◌∷◌, ◌++◌, drop, sym, refl, subst, arith}
use Rattle.sheet.specs.Steps.{Steps, steps, sound}
use Rattle.sheet.specs.Bytes.{body_length}
use Rattle.sheet.specs.States.{State, state, put_state, Written}
use Rattle.sheet.proofs.Acceptance.{accepted_keeps, accepted_few, kept_sound, put_parts}
use Rattle.sheet.proofs.Growth.{written_more}
use Rattle.sheet.proofs.states.OpenSheet.put.Goals as goal

pub returns : goal.returns
returns c =
    let s : State = state c.args.self.now in
    let b : Steps = steps c.args.answer c.args.count c.args.operations.now in
    let few : s.filled < s.declared = accepted_few s _ _ _ c.in_ok-check.ensures in
    let good : sound b ≡ true = kept_sound b (accepted_keeps s _ _ _ c.in_ok-check.ensures) (omega arith) (λ i. omega (arith, c.type_inv.operations i)) in
    let e = put_parts s b c.args.buffer.now _ _ _ _ _ c.write_body.ensures c.write_row.ensures refl (omega arith) (omega arith) in
    record {
      refusal = c.in_ok-check.ensures;
      sheet = refl;
      bytes = e;
      written = λ bs rest w. subst (λ (buffer : List ℕ). Written (put_state s b) buffer (bs ++ b ∷ []) (drop (body_length b) rest)) (sym e) (written_more s b c.args.buffer.now few good bs rest w);
    }
