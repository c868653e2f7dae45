-- The sheet once all answers are put, and a buffer that is too short already for its head and rows. Assumes nothing.
use Rattle.std.proofs.Common.{◌≡◌, ℕ, ◌+◌, ◌*◌, ◌<◌, ◌≤◌, Bool, true, false, cond, ltb, List, ◌++◌, length, drop, is_some, Some, None, Option, sym, ap, ◌∙◌, ⊎_elim, arith, length-append}
use Rattle.std.proofs.lemmas.List.{drop-drop}
use Rattle.std.proofs.lemmas.Bool.{cases_lt, le-ltb, false≢true}
use Rattle.sheet.specs.declared.refusal.SheetRefusal.{SheetRefusal}
use Rattle.sheet.specs.declared.refusal.SheetRefusal.TheVariants.{Contents, ShortSheet, UnderCount}
use Rattle.sheet.specs.Steps.{Steps}
use Rattle.sheet.specs.Bytes.{bodies_length, sheet_bytes}
use Rattle.sheet.specs.States.{State, Written, open_refusal, close_refusal}
use Rattle.sheet.proofs.Lengths.{length_sheet}
use Rattle.book_sheet.specs.Sheets.{complete}

abbrev open_by : Bool → Bool → Option SheetRefusal
open_by many short = cond many (Some Contents) (cond short (Some ShortSheet) None)

-- at most 64 bodies are refused for want of room alone
opened_short : (n room : ℕ) → n ≤ 64 → is_some (open_refusal n room) ≡ true → room < 2 + 4 * n
opened_short n room few e = ⊎_elim (λ lower. lower) wide (cases_lt room (2 + 4 * n))
  where
    wide : 2 + 4 * n ≤ room → room < 2 + 4 * n
    wide far =
        let few-enough = ap (λ b. open_by b (ltb room (2 + 4 * n))) (le-ltb 64 n few) in
        let fits = ap (open_by false) (le-ltb room (2 + 4 * n) far) in
        absurd (false≢true (sym (ap is_some (few-enough ∙ fits)) ∙ e))

-- and then the whole sheet has no room
pub head_short : (bs : List Steps) (n room : ℕ) (r : SheetRefusal) → n ≡ length bs → n ≤ 64 → Some r ≡ open_refusal n room → (room < length (complete bs)) × (room ≤ 65535)
head_short bs n room r jobs few e =
    let short = opened_short n room few (sym (ap is_some e)) in
    let long = length_sheet (length bs) bs in
    (omega (arith, short, long, jobs), omega (arith, short, few))

-- a sheet with all its bodies is closed
pub all_there : (s : State) (buffer : List ℕ) (bs : List Steps) (rest : List ℕ) (r : SheetRefusal) → Written s buffer bs rest → s.declared ≡ length bs → close_refusal s ≡ Some r → ⊥
all_there s buffer bs rest r w all e =
    let none : close_refusal s ≡ None = ap (λ b. cond b (Some UnderCount) None) (le-ltb s.filled s.declared (omega (arith, w.filled, all))) in
    cc

-- the sheet stands at the front, and what was behind it stays
module _ (s : State) (before after : List ℕ) (bs : List Steps) (jobs n : ℕ) (w : Written s after bs (drop (bodies_length bs) (drop (2 + 4 * jobs) before))) (declared : s.declared ≡ length bs) (same : jobs ≡ length bs) (end : n ≡ s.end) where
  pub closed_length : n ≡ length (complete bs)
  closed_length = end ∙ (w.end ∙ ap (λ k. length (sheet_bytes k bs)) declared)

  pub closed_bytes : after ≡ complete bs ++ drop n before
  closed_bytes =
      let long = length_sheet (length bs) bs in
      let whole : (2 + 4 * jobs) + bodies_length bs ≡ n = omega (arith, long, same, closed_length) in
      w.begins ∙ (ap (λ k. sheet_bytes k bs ++ drop (bodies_length bs) (drop (2 + 4 * jobs) before)) declared
      ∙ ap (λ xs. complete bs ++ xs) (drop-drop (bodies_length bs) (2 + 4 * jobs) before ∙ ap (λ k. drop k before) whole))

  pub closed_fits : length after ≡ length before → n ≤ length before
  closed_fits kept =
      let long = ap length closed_bytes ∙ length-append (complete bs) (drop n before) in
      omega (arith, long, kept, closed_length)
