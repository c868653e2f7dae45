-- A sheet that has all its bodies is the sheet of its bodies. Assumes nothing.
use Rattle.std.proofs.Common.{◌≡◌, ◌≤◌, ◌++◌, length, take, sym, ap, ◌∙◌, arith}
use Rattle.std.proofs.lemmas.List.{take_at}
use Rattle.sheet.specs.Bytes.{sheet_bytes}
use Rattle.sheet.specs.States.{State, Completes}

pub completes : (s : State) → s.filled ≡ s.declared → s.declared ≤ 64 → Completes s s.end
completes s h few buffer bs rest w =
    let d : s.declared ≡ length bs = omega (arith, w.filled) in
    let e : s.end ≡ length (sheet_bytes (length bs) bs) = w.end ∙ ap (λ n. length (sheet_bytes n bs)) d in
    let b : buffer ≡ sheet_bytes (length bs) bs ++ rest = w.begins ∙ ap (λ n. sheet_bytes n bs ++ rest) d in
    (ap (take s.end) b ∙ take_at (sheet_bytes (length bs) bs) rest s.end (sym e), e, omega (arith, w.filled), w.sound)
