-- The differences, valve by valve.
use Rattle.std.proofs.Common.{◌≡◌, ℕ, ◌+◌, ◌-◌, ◌/◌, ◌%◌, ◌<◌, List, [], ◌∷◌, length, map, ap, sym, ◌∙◌, refl, rules, arith}
use Rattle.std.specs.List.{sum_by}
use Rattle.std.proofs.lemmas.Grind.{same_number_lists}
use Rattle.std.proofs.lemmas.List.{length-map, get_or-map}
use Rattle.std.proofs.lemmas.List.Sums.{sum_by-cons}
use Rattle.valves.specs.declared.bench.Bench.{Bench}
use Rattle.valves.specs.declared.bench.valve.Valve.{Valve}
use Rattle.valves.specs.Positions.{positions, apart}
use Rattle.valves.specs.Of.{counts_of}
use Rattle.valves.specs.Invariant.{digit_at, smallest}
use Rattle.valves.proofs.bench.Bench.apart.Goals as goal

-- the position of a valve
abbrev stood : ℕ → Valve → ℕ
stood s x = s / x.weight % x.positions

positions_length : (ns : List ℕ) (s : ℕ) → length (positions ns s) ≡ length ns
positions_length [] s = refl
positions_length (n ∷ ns) s = omega (arith, positions_length ns (s / n))

positions_mapped : (b : Bench) (s : ℕ) → positions (counts_of b) s ≡ map (stood s) b.valves.items
positions_mapped b s =
    let long : length (positions (counts_of b) s) ≡ length b.valves.items = positions_length (counts_of b) s ∙ length-map b.valves.items _ in
    same_number_lists _ _ (long ∙ sym (length-map b.valves.items (stood s)))
    (λ k h. let there : k < length b.valves.items = omega arith in
    sym (get_or-map (stood s) b.valves.items k smallest 0 there ∙ digit_at b s k smallest there))

apart_mapped : (f g : Valve → ℕ) (xs : List Valve) → sum_by (λ x. (f x - g x) + (g x - f x)) xs ≡ apart (map f xs) (map g xs)
apart_mapped f g [] = refl
apart_mapped f g (x ∷ xs) = sum_by-cons _ x xs ∙ ap (λ y. (f x - g x) + (g x - f x) + y) (apart_mapped f g xs)

pub returns : goal.returns
returns c =
    let b = c.args.self.now in
    let f = stood c.args.from in
    let g = stood c.args.to in
    let total : c.sum.result ≡ sum_by (λ x. (f x - g x) + (g x - f x)) b.valves.items = search rules in
    total ∙ (apart_mapped f g b.valves.items ∙ (ap (λ y. apart y (map g b.valves.items)) (sym (positions_mapped b c.args.from)) ∙ ap (apart (positions (counts_of b) c.args.from)) (sym (positions_mapped b c.args.to))))
