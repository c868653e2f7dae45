-- Going down the rows, the last row seen of a valve is its first.
use Rattle.std.proofs.Common.{◌≡◌, ℕ, suc, ◌-◌, ◌<◌, length, get_or, sym, refl, ap, ◌∙◌, arith, length-set}
use Rattle.std.proofs.lemmas.List.{get_or-replicate}
use Rattle.valves.specs.declared.interlock.Interlock.{Interlock}
use Rattle.valves.specs.Interlocks.{row_from}
use Rattle.valves.proofs.Chains.{row_past, first_more, following_more}
use Rattle.valves.proofs.bench.tables.chains_of.Goals as goal

pub loop-row-init : goal.loop-row-init
loop-row-init c =
    let ls = c.args.interlocks.now in (
      refl,
      refl,
      omega arith,
      λ v h. get_or-replicate 12 v (length ls) 0 h ∙ sym (row_past ls v (length ls) (omega arith)),
      λ r d h k. absurd (omega arith),
    )

pub loop-row-preserved : goal.loop-row-preserved
loop-row-preserved c =
    let ls = c.args.interlocks.now in
    let row = c.loop-row.row in
    let none : Interlock = record { valve = 0; position = 0; other = 0; stands = 0 } in
    let some : 0 < row = c.loop-row-test.true in
    let back : suc (row - 1) ≡ row = omega arith in
    let within : row - 1 < length ls = omega (arith, c.loop-row.invariant.2) in
    let valve : (get_or ls (row - 1) none).valve < 12 = c.requires.twelve (row - 1) none within in
    let first : (v : ℕ) → v < 12 → get_or c.loop-row.first v 0 ≡ row_from ls v (suc (row - 1)) = λ v h. c.loop-row.invariant.3 v h ∙ ap (row_from ls v) (sym back) in (
      length-set c.loop-row.first _ _ ∙ c.loop-row.invariant.0,
      length-set c.loop-row.following _ _ ∙ c.loop-row.invariant.1,
      omega arith,
      first_more ls (row - 1) none within c.loop-row.first 12 (omega (arith, c.loop-row.invariant.0)) first valve,
      following_more ls (row - 1) none within c.loop-row.following (get_or c.loop-row.first (get_or ls (row - 1) none).valve 0) (omega (arith, c.loop-row.invariant.1, c.requires.few)) (first (get_or ls (row - 1) none).valve valve)
          (λ i e h k. c.loop-row.invariant.4 i e (omega arith) k),
    )
