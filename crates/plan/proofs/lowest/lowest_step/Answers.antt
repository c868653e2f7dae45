-- The operation that is found steps there, and those that were looked at before do not.
use Rattle.std.proofs.Common.{◌≡◌, ℕ, ◌<◌, ◌≤◌, Some, None, Option, arith, rules}
use Rattle.std.specs.Option.{MatchOption}
use Rattle.std.proofs.lemmas.Iterator.{first_from_Range}
use Rattle.plant.specs.Meaning.{Meaning, Steps}
use Rattle.plan.specs.Lowest.{Lowest}
use Rattle.plan.proofs.lowest.lowest_step.Goals as goal

first_is_lowest :
    (m : Meaning) (s t n : ℕ) (r : Option ℕ) → n ≡ m.operations
    → MatchOption r ((k : ℕ) → 0 ≤ k → k < n → Steps m s k t → ⊥) (λ i. (0 ≤ i) × (i < n) × Steps m s i t × ((k : ℕ) → 0 ≤ k → k < i → Steps m s k t → ⊥)) → Lowest m s t r
first_is_lowest m s t n (Some o) e f = (f.2, λ p below. f.3 p (omega arith) below)
first_is_lowest m s t n None e f = λ p below. f p (omega arith) (omega (arith, below, e))

pub returns : goal.returns
returns g c =
    let m = g.P.Plant.meaning c.args.plant.now in
    first_is_lowest m c.args.start c.args.target c.operations.result c.find.result c.operations.ensures
    (first_from_Range _ _ _ c.find.result (λ o. Steps m c.args.start o c.args.target) (λ o. Steps m c.args.start o c.args.target → ⊥) c.find.ensures.ran (λ x q k. search rules) (λ x q k. search rules))
