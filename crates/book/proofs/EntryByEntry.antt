-- The entries of a book, one by one. Assumes nothing.
use Rattle.std.proofs.Common.{◌≡◌, ℕ, zero, suc, ◌+◌, ◌<◌, ◌≤◌, true, false, cond, List, [], ◌∷◌, length, drop, Some, None, Option, sym, refl, ap, ◌∙◌, arith}
use Rattle.std.specs.List.{slice_get}
use Rattle.std.specs.Option.{MatchOption}
use Rattle.faults.specs.declared.fault.FileFault.{FileFault}
use Rattle.file.specs.Parts.{Part}
use Rattle.file.specs.Read.{entries, rows, contents_end}
use Rattle.file.specs.Files.{entries_of}
use Rattle.file.proofs.BodyByBody.{length_parts}
use Rattle.book.specs.Book.{is_steps, steps_from, entries_in}

pub entries_are : (o : Option FileFault) (file : List ℕ) → length (entries_in o file) ≡ entries_of o file
entries_are (Some f) file = refl
entries_are None file = length_parts (entries file) (rows file) (contents_end file) (drop (contents_end file) file)

-- where no entry is a steps body, there is no first
steps_none : (es : List Part) (j : ℕ) → ((k : ℕ) → k < length es → is_steps (slice_get es k) ≡ false) → None ≡ steps_from j es
steps_none [] j h = refl
steps_none (e ∷ es) j h = steps_none es (suc j) (λ k l. h (suc k) (omega arith)) ∙ sym (ap (λ b. cond b (Some j) (steps_from (suc j) es)) (h 0 (omega arith)))

-- one before which there is none is the first
steps_first : (es : List Part) (j i : ℕ) → i < length es → is_steps (slice_get es i) ≡ true → ((k : ℕ) → k < i → is_steps (slice_get es k) ≡ false) →
    Some (j + i) ≡ steps_from j es
steps_first [] j i l h g = absurd (omega arith)
steps_first (e ∷ es) j zero l h g =
    let same : j + 0 ≡ j = omega arith in
    ap (λ k. Some k) same ∙ sym (ap (λ b. cond b (Some j) (steps_from (suc j) es)) h)
steps_first (e ∷ es) j (suc i) l h g =
    let same : j + suc i ≡ suc j + i = omega arith in
    ap (λ k. Some k) same
    ∙ (steps_first es (suc j) i (omega arith) h (λ k b. g (suc k) (omega arith))
    ∙ sym (ap (λ b. cond b (Some j) (steps_from (suc j) es)) (g 0 (omega arith))))

-- what a search through the numbers of the entries finds
pub steps_found : (es : List Part) (n : ℕ) (r : Option ℕ) → length es ≡ n →
    MatchOption r ((k : ℕ) → 0 ≤ k → k < n → is_steps (slice_get es k) ≡ false)
    (λ i. (0 ≤ i) × (i < n) × (is_steps (slice_get es i) ≡ true) × ((k : ℕ) → 0 ≤ k → k < i → is_steps (slice_get es k) ≡ false)) →
    r ≡ steps_from 0 es
steps_found es n None l h = steps_none es 0 (λ k b. h k (omega arith) (omega arith))
steps_found es n (Some i) l h =
    let same : i ≡ 0 + i = omega arith in
    ap (λ k. Some k) same ∙ steps_first es 0 i (omega arith) h.2 (λ k b. h.3 k (omega arith) b)
