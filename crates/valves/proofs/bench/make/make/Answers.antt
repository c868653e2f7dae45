-- What is kept is the data, and what is worked out of them.
use Rattle.std.proofs.Common.{◌≡◌, false, length, get_or, is_some, sym, ap, ◌∙◌, subst, arith}
use Rattle.std.proofs.lemmas.List.{length-map, get_or-take}
use Rattle.valves.specs.Positions.{product}
use Rattle.valves.specs.Faults.{bench_fault}
use Rattle.valves.specs.Tables.{Weighs, Begins, GoesOn}
use Rattle.valves.specs.Held.{weights_in, firsts_in, locks_in, following_in}
use Rattle.valves.specs.Faultless.{none_from_data}
use Rattle.valves.proofs.bench.make.make.Goals as goal

pub invariant_of-result : goal.invariant_of-result
invariant_of-result c =
    let ns = c.args.positions.now in
    let ls = c.args.interlocks.now in
    let vs = c.valves_of-valves.result.0.items in
    let rs = c.rows_of.result.items in
    let firsts = c.chains_of.result.first in
    let nexts = c.chains_of.result.following in
    let held = sym c.valves_of-valves.ensures.held in
    let locks = sym c.rows_of.ensures.held in
    let long : length vs ≡ length ns = sym (length-map vs (λ y. y.positions)) ∙ ap length (sym held) in
    record {
      faultless = subst (λ x. is_some (bench_fault x (locks_in rs)) ≡ false) held (subst (λ x. is_some (bench_fault ns x) ≡ false) locks (ap is_some (none_from_data ns ls c.requires)));
      weighs = subst (λ x. Weighs x (weights_in vs)) held c.valves_of-valves.ensures.weighs;
      counts = subst (λ x. c.valves_of-valves.result.1 ≡ product x) held c.valves_of-valves.ensures.counts;
      begins = subst (λ x. Begins (length vs) x (firsts_in vs)) locks (λ v h. ap (λ l. get_or l v 0) c.valves_of-valves.ensures.begins ∙ (get_or-take (length ns) firsts v 0 (omega arith) ∙ c.chains_of.ensures.begins v (omega arith)));
      goes = subst (λ x. GoesOn x (following_in rs)) locks (λ r d h. ap (λ l. get_or l r 0) c.rows_of.ensures.goes ∙ (get_or-take (length ls) nexts r 0 h ∙ c.chains_of.ensures.goes r d h));
    }
