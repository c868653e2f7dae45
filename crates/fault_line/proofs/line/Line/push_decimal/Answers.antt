-- The digits of the library are those of the line.
use Rattle.std.proofs.Common.{◌≡◌, ◌++◌, length, sym, ap, ◌∙◌, arith}
use Rattle.fault_line.specs.Lines.{written, numeral}
use Rattle.fault_line.proofs.Numerals.{numeral_decimal}
use Rattle.fault_line.proofs.line.Line.push_decimal.Goals as goal

pub push-requires : goal.push-requires
push-requires c =
    let text : c.as_bytes.result.now ≡ numeral c.args.number = c.as_bytes.ensures.value ∙ (c.format.ensures.text ∙ sym (numeral_decimal c.args.number (omega arith))) in
    omega (arith, c.requires, ap length text)

pub returns : goal.returns
returns c =
    let text : c.as_bytes.result.now ≡ numeral c.args.number = c.as_bytes.ensures.value ∙ (c.format.ensures.text ∙ sym (numeral_decimal c.args.number (omega arith))) in
    c.push.ensures ∙ ap (λ d. written c.args.self.now ++ d) text
