-- The place is found at the head, and the others behind it.
use Rattle.std.proofs.Common.{◌+◌, [], ◌∷◌, ◌++◌, get_or, set, sym, subst}
use Rattle.search.specs.Chained.{Chained}
use Rattle.search.proofs.Chaining.{chained_more}
use Rattle.search.proofs.chains.Chains.link.Goals as goal

pub returns : goal.returns
returns c =
    λ ss here follows some.
    let s = c.args.self.now in
    let v = c.args.setting in
    let n = c.args.place in
    let next = chained_more s.memory.now s.links s.heads ss v n (follows some) some here c.if-place-links.false in
    subst (λ b. Chained (set (set s.memory.now n (get_or s.memory.now (s.links + b) 0)) (s.links + b) n) s.links s.heads (ss ++ (v ∷ []))) (sym c.bucket.ensures.is) next
