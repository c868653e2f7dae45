-- Each turn adds one valve, and the weights stay at most 4 to the power of 12.
use Rattle.std.proofs.Common.{◌≡◌, ℕ, suc, ◌*◌, ◌<◌, List, [], ◌∷◌, ◌++◌, length, get_or, take, map, sym, ap, ◌∙◌, add-one, arith}
use Rattle.std.proofs.lemmas.List.{length-map, length-take-le, map-append, take_more}
use Rattle.valves.specs.declared.bench.valve.Valve.{Valve}
use Rattle.valves.specs.Positions.{weight}
use Rattle.valves.specs.Held.{weights_in}
use Rattle.valves.specs.Numbering.{weight_more, weight_all, weight_few, weight_positive}
use Rattle.valves.specs.BenchLawful.{positive}
use Rattle.valves.proofs.Pushed.{push_more}
use Rattle.valves.proofs.bench.tables.valves_of.Goals as goal

next_weight : (ns : List ℕ) (v w : ℕ) → v < length ns → w ≡ weight ns v → w * get_or ns v 0 ≡ weight ns (suc v)
next_weight ns v w h is = ap (λ x. x * get_or ns v 0) is ∙ sym (weight_more ns v h)

pub new-requires-clause-some : goal.new-requires-clause-some
new-requires-clause-some c =
    let ns = c.args.positions.now in
    omega (arith, c.loop-valve.invariant.next, weight_positive ns c.loop-valve.valve (positive ns c.requires.two))

pub new-requires-clause-few : goal.new-requires-clause-few
new-requires-clause-few c =
    let ns = c.args.positions.now in
    let v = c.loop-valve.valve in
    let next = next_weight ns v c.loop-valve.weight c.loop-valve-test.true c.loop-valve.invariant.next in
    omega (arith, next, weight_few ns (suc v) (omega (arith, c.requires.few)) c.requires.four)

pub loop-valve-preserved : goal.loop-valve-preserved
loop-valve-preserved c =
    let ns = c.args.positions.now in
    let v = c.loop-valve.valve in
    let xs = c.loop-valve.valves.items in
    let x = c.new.result in
    let long : length xs ≡ v = sym (length-map xs (λ y. y.positions)) ∙ (ap length c.loop-valve.invariant.held ∙ length-take-le v ns (omega arith)) in
    let more : (f : Valve → ℕ) → map f c.push.new.self.items ≡ map f xs ++ f x ∷ [] = λ f. ap (map f) c.push.ensures.items ∙ map-append f xs (x ∷ []) in
    record {
      held = more (λ y. y.positions) ∙ (ap (λ l. l ++ x.positions ∷ []) c.loop-valve.invariant.held ∙ (ap (λ y. take v ns ++ y ∷ []) c.new.ensures.positions ∙ sym (take_more ns v 0 c.loop-valve-test.true)));
      next = next_weight ns v c.loop-valve.weight c.loop-valve-test.true c.loop-valve.invariant.next ∙ ap (weight ns) (sym (add-one v));
      weighs = λ k h. ap (λ l. get_or l k 0) (more (λ y. y.weight)) ∙ push_more (weight ns) (weights_in xs) v x.weight (length-map xs _ ∙ long) (c.new.ensures.weight ∙ c.loop-valve.invariant.next) c.loop-valve.invariant.weighs k h;
      begins = more (λ y. y.first) ∙ (ap (λ l. l ++ x.first ∷ []) c.loop-valve.invariant.begins ∙ (ap (λ y. take v c.args.first.now ++ y ∷ []) c.new.ensures.first ∙ sym (take_more c.args.first.now v 0 (omega arith))));
    }

pub returns-clause-counts : goal.returns-clause-counts
returns-clause-counts c =
    let ns = c.args.positions.now in
    let all : c.loop-valve.valve ≡ length ns = omega (arith, c.loop-valve-test.false, c.loop-valve.auto.valve-end) in
    c.loop-valve.invariant.next ∙ (ap (weight ns) all ∙ weight_all ns)
