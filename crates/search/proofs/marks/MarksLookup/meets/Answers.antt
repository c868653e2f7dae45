-- The mark tells.
use Rattle.std.proofs.Common.{◌≡◌, ◌<◌, ◌/◌, ◌%◌, ◌^◌, eqb, length, get_or, ap, ◌∙◌, rules}
use Rattle.std.proofs.Math.Bool.{Bool-set}
use Rattle.std.proofs.Math.Logic.{∥∥₁_elim}
use Rattle.search.specs.Marked.{mark_of}
use Rattle.search.proofs.marks.MarksLookup.meets.Goals as goal

pub returns-in-Some : goal.returns-in-Some
unfolding mark_of
returns-in-Some g c =
    let u = c.args.setting in
    let memory = c.args.self.now.memory.now in
    let read : c.in-Some.word.now ≡ get_or memory (u / 32) 0 = search rules in
    let inside : u / 32 < length memory = search rules in
    ∥∥₁_elim c.requires (Bool-set _ _) (λ marked. ap (λ w. eqb (w / 2 ^ (u % 32) % 2) 1) read ∙ marked.tells u inside)
