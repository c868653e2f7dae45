-- Every run of calls leaves the sheet of the bodies put so far, and a closed sheet reads back. Assumes nothing.
use Rattle.std.proofs.Common.{◌≡◌, ℕ, ◌+◌, ◌-◌, ◌*◌, ◌<◌, ◌≤◌, true, List, [], ◌∷◌, ◌++◌, length, take, drop, None, sym, refl, ap, ◌∙◌, subst, append_assoc, append-nil, arith}
use Rattle.std.proofs.lemmas.Bool.{and_parts, and_from}
use Rattle.std.proofs.lemmas.Bool.Decides.{nat_tests}
use Rattle.sheet.specs.Steps.{Steps, keeps_rule, fits}
use Rattle.sheet.specs.Bytes.{body_length, zeros, sheet_bytes}
use Rattle.sheet.specs.States.{State, open_refusal, close_refusal, Written}
use Rattle.sheet.proofs.Acceptance.{accepted_keeps, accepted_few}
use Rattle.sheet.proofs.Growth.{written_more}
use Rattle.sheet_laws.proofs.Completion.{completes}
use Rattle.sheet.proofs.Lengths.{length_sheet}
use Rattle.sheet_reader.proofs.ReadBack.{reads_back}
use Rattle.sheet_laws.specs.Runs.{Run, begun, step, Accepted, after, all_fit, PutAndRead}

-- the opening writes the sheet of no body
pub begun_written : (n : ℕ) (buffer : List ℕ) → (rest : List ℕ) × Written (begun n buffer).state (begun n buffer).buffer [] rest
begun_written n buffer =
    let head : List ℕ = n ∷ (0 ∷ zeros (4 * n)) in
    let l : length (sheet_bytes n []) ≡ 2 + (4 * 0 + (4 * (n - 0) + 0)) = length_sheet n [] in
    let z : 4 * (n - 0) ≡ 4 * n = omega arith in
    let s : sheet_bytes n [] ≡ head = ap (λ k. n ∷ (0 ∷ (zeros k ++ []))) z ∙ ap (λ t. n ∷ (0 ∷ t)) (append-nil (zeros (4 * n))) in (
      drop (0 + length head) buffer,
      record { filled = refl; end = omega arith; sound = refl; begins = ap (λ t. t ++ drop (0 + length head) buffer) (sym s) },
    )

-- each body that is put is behind those before
pub after_written : (r : Run) (cs bs : List Steps) (rest : List ℕ) → all_fit bs ≡ true → Accepted r bs → Written r.state r.buffer cs rest →
    (end : List ℕ) × Written (after r bs).state (after r bs).buffer (cs ++ bs) end
after_written r cs [] rest f a w = (rest, subst (λ (ds : List Steps). Written r.state r.buffer ds rest) (sym (append-nil cs)) w)
after_written r cs (b ∷ bs) rest f a w =
    let p = and_parts (fits b) (all_fit bs) f in
    let k : keeps_rule b ≡ true = accepted_keeps r.state (keeps_rule b) (length b.operations) (length r.buffer) (sym a.0) in
    let few : r.state.filled < r.state.declared = accepted_few r.state (keeps_rule b) (length b.operations) (length r.buffer) (sym a.0) in
    let v = written_more r.state b r.buffer few (and_from (keeps_rule b) (fits b) k p.0) cs rest w in
    let u = after_written (step r b) (cs ++ b ∷ []) bs (drop (body_length b) rest) p.1 a.1 v in
    (u.0, subst (λ (ds : List Steps). Written (after (step r b) bs).state (after (step r b) bs).buffer ds u.0) (append_assoc cs (b ∷ []) bs) u.1)

-- the number that was declared stays
pub declared_stays : (r : Run) (bs : List Steps) → (after r bs).state.declared ≡ r.state.declared
declared_stays r [] = refl
declared_stays r (b ∷ bs) = declared_stays (step r b) bs

-- what is filled is never more than declared
pub filled_within : (r : Run) (bs : List Steps) → Accepted r bs → r.state.filled ≤ r.state.declared → (after r bs).state.filled ≤ (after r bs).state.declared
filled_within r [] a h = h
filled_within r (b ∷ bs) a h =
    let few : r.state.filled < r.state.declared = accepted_few r.state (keeps_rule b) (length b.operations) (length r.buffer) (sym a.0) in
    filled_within (step r b) bs a.1 (omega arith)

opened_few : (n room : ℕ) → open_refusal n room ≡ None → n ≤ 64
opened_few n room h = grind (arith, nat_tests)

closed_full : (s : State) → close_refusal s ≡ None → s.declared ≤ s.filled
closed_full s h = grind (arith, nat_tests)

pub put_and_read : PutAndRead
put_and_read n buffer bs o f a c =
    let last : Run = after (begun n buffer) bs in
    let b = begun_written n buffer in
    let w = after_written (begun n buffer) [] bs b.0 f a b.1 in
    let few : n ≤ 64 = opened_few n (length buffer) o in
    let d : last.state.declared ≡ n = declared_stays (begun n buffer) bs in
    let full : last.state.filled ≡ last.state.declared = omega (arith, closed_full last.state c, filled_within (begun n buffer) bs a (omega arith)) in
    let q = completes last.state full (omega arith) last.buffer bs w.0 w.1 in
    reads_back (take last.state.end last.buffer) bs q.2 q.3 q.0
