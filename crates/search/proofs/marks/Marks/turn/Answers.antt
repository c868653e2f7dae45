-- The mark of the setting is turned over, if it has one.
use Rattle.std.proofs.Common.{◌≡◌, ◌*◌, ◌/◌, ◌%◌, ◌^◌, [], ◌∷◌, ◌++◌, get_or, set, sym, subst, arith}
use lib.Bits.{bit_xor}
use Rattle.std.proofs.lemmas.Nat.{one_shl, mod_below}
use Rattle.search.specs.Marked.{Marked}
use Rattle.search.proofs.Marking.{marked_more, marked_less, marked_past_more, marked_past_less}
use Rattle.search.proofs.marks.Marks.turn.Goals as goal

pub returns-then-word-self : goal.returns-then-word-self
returns-then-word-self c =
    let memory = c.args.self.now.memory.now in
    let v = c.args.setting in
    record { marks = marked_past_more memory v c.if-word-self.true; unmarks = marked_past_less memory v c.if-word-self.true }

pub returns : goal.returns
returns c =
    let memory = c.args.self.now.memory.now in
    let v = c.args.setting in
    let bit : 2 ^ (v % 32) ≡ (1 * 2 ^ (v % 32)) % 4294967296 = sym (one_shl (v % 32) 32 (mod_below v 32 (omega arith))) in
    record {
      marks = λ ss new m. subst (λ b. Marked (set memory (v / 32) (bit_xor (get_or memory (v / 32) 0) b)) (ss ++ (v ∷ []))) bit (marked_more memory v c.if-word-self.false ss new m);
      unmarks = λ ss m. subst (λ b. Marked (set memory (v / 32) (bit_xor (get_or memory (v / 32) 0) b)) ss) bit (marked_less memory v c.if-word-self.false ss m);
    }
