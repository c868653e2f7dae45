-- A position is a digit of the setting.
use Rattle.std.proofs.Common.{◌≡◌, ◌≤◌, ◌*◌, ◌/◌, ◌%◌, ap, ◌∙◌, arith, mul-le-mul}
use Rattle.valves.specs.Tables.{whole}
use Rattle.valves.specs.Shares.{share_digit}
use Rattle.valves.proofs.bench.valve.Valve.stands.Goals as goal

pub returns-clause-digit : goal.returns-clause-digit
returns-clause-digit c =
    let x = c.args.self.now in
    let s = c.args.setting in
    let low : s ≤ 4294967295 = omega arith in
    let wrapped : s * x.share % 18446744073709551616 % whole ≡ s * x.share % whole = omega arith in
    ap (λ y. y * x.positions / whole) (wrapped ∙ ap (λ y. s * y % whole) x.shared)
    ∙ share_digit whole s x.weight x.positions (omega arith) x.some (omega arith) (omega (arith, mul-le-mul low x.few))
