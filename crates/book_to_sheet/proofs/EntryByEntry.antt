-- The entries of a book, one more at a time: how many are jobs, and their answers. Assumes nothing.
use Rattle.std.proofs.Common.{◌≡◌, ℕ, zero, suc, ◌+◌, ◌<◌, ◌≤◌, cond, eqb, List, [], ◌∷◌, ◌++◌, length, take, Some, None, Option, sym, refl, ap, ◌∙◌, add-one, arith}
use Rattle.std.specs.List.{slice_get, filter, range_with_len}
use Rattle.file.specs.Kinds.{kind_of}
use Rattle.file.specs.Parts.{Part}
use Rattle.sheet.specs.Steps.{Steps}
use Rattle.sheet.specs.Bytes.{body_length, bodies_length}
use Rattle.book_sheet.specs.Sheets.{put, answers_from, job_count, jobs_in}
use Rattle.book_sheet.proofs.JobByJob.{count_few}
use Rattle.book_to_sheet.specs.Entries.{steps_at, jobs_of, jobs_at}

-- one entry is a job or is none
job_one : (t k : ℕ) (xs : List ℕ) → t ≤ 1 → length (cond (eqb t 1) (k ∷ xs) xs) ≡ t + length xs
job_one zero k xs h = omega arith
job_one (suc zero) k xs h = omega arith
job_one (suc (suc t)) k xs h = absurd (omega arith)

jobs_from : (all es : List Part) (k : ℕ) → ((j : ℕ) → j < length es → slice_get all (k + j) ≡ slice_get es j) →
    length (filter (λ i. eqb (jobs_at all i) 1) (range_with_len k (length es))) ≡ jobs_in es
jobs_from all [] k h = refl
jobs_from all (e ∷ es) k h =
    let here : slice_get all k ≡ Some e = ap (slice_get all) (let same : k ≡ k + 0 = omega arith in same) ∙ h 0 (omega arith) in
    let behind = jobs_from all es (k + 1) (λ j l. ap (slice_get all) (let same : k + 1 + j ≡ k + suc j = omega arith in same) ∙ h (suc j) (omega arith)) in
    let xs = filter (λ i. eqb (jobs_at all i) 1) (range_with_len (k + 1) (length es)) in
    ap (λ o. length (cond (eqb (jobs_of o) 1) (k ∷ xs) xs)) here
    ∙ (job_one (job_count (kind_of e.kind)) k xs (count_few (kind_of e.kind)) ∙ ap (λ n. job_count (kind_of e.kind) + n) behind)

-- the numbers of the jobs, counted
pub jobs_counted : (es : List Part) (n : ℕ) → length es ≡ n → length (filter (λ i. eqb (jobs_at es i) 1) (range_with_len 0 n)) ≡ jobs_in es
jobs_counted es n h =
    ap (λ m. length (filter (λ i. eqb (jobs_at es i) 1) (range_with_len 0 m))) (sym h)
    ∙ jobs_from es es 0 (λ j l. ap (slice_get es) (let same : 0 + j ≡ j = omega arith in same))

-- one entry more adds its answer, if it has one
put_behind : (o : Option Steps) (xs ys : List Steps) → put o (xs ++ ys) ≡ put o xs ++ ys
put_behind None xs ys = refl
put_behind (Some b) xs ys = refl

answers_one : (all es : List Part) (i : ℕ) → i < length es → answers_from all (take (suc i) es) ≡ answers_from all (take i es) ++ put (steps_at all (slice_get es i)) []
answers_one all [] i h = absurd (omega arith)
answers_one all (e ∷ es) zero h = refl
answers_one all (e ∷ es) (suc i) h =
    ap (put (steps_at all (Some e))) (answers_one all es i (omega arith)) ∙ put_behind (steps_at all (Some e)) (answers_from all (take i es)) (put (steps_at all (slice_get es i)) [])

pub answers_more : (all es : List Part) (i : ℕ) → i < length es → answers_from all (take (i + 1) es) ≡ answers_from all (take i es) ++ put (steps_at all (slice_get es i)) []
answers_more all es i h = ap (λ k. answers_from all (take k es)) (add-one i) ∙ answers_one all es i h

-- the answers up to an entry and its own are among those to all entries
pub record Among (xs : List Steps) (b : Steps) (ys : List Steps) : Type 0 where
  pub bytes : bodies_length xs + body_length b ≤ bodies_length ys
  pub number : length xs < length ys

among_put : (o : Option Steps) (xs : List Steps) (b : Steps) (ys : List Steps) → Among xs b ys → Among (put o xs) b (put o ys)
among_put None xs b ys a = a
among_put (Some c) xs b ys a = record { bytes = omega (arith, a.bytes); number = omega (arith, a.number) }

among_first : (o : Option Steps) (b : Steps) (ys : List Steps) → o ≡ Some b → Among [] b (put o ys)
among_first None b ys e = cc
among_first (Some c) b ys e = let same : body_length b ≡ body_length c = ap body_length (let f : b ≡ c = cc in f) in record { bytes = omega (arith, same); number = omega arith }

pub among_answers : (all es : List Part) (i : ℕ) (b : Steps) → i < length es → steps_at all (slice_get es i) ≡ Some b → Among (answers_from all (take i es)) b (answers_from all es)
among_answers all [] i b h e = absurd (omega arith)
among_answers all (x ∷ es) zero b h e = among_first (steps_at all (Some x)) b (answers_from all es) e
among_answers all (x ∷ es) (suc i) b h e = among_put (steps_at all (Some x)) (answers_from all (take i es)) b (answers_from all es) (among_answers all es i b (omega arith) e)

pub bodies_together : (xs ys : List Steps) → bodies_length (xs ++ ys) ≡ bodies_length xs + bodies_length ys
bodies_together [] ys = omega arith
bodies_together (x ∷ xs) ys = let r : bodies_length (xs ++ ys) ≡ bodies_length xs + bodies_length ys = bodies_together xs ys in omega arith
