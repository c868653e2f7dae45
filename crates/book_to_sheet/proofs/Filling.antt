-- The sheet while the answers to a book's jobs are put on it, entry by entry. Assumes nothing.
use Rattle.std.proofs.Common.{◌≡◌, ℕ, ◌+◌, ◌*◌, ◌<◌, ◌≤◌, Bool, true, false, cond, ltb, List, [], ◌++◌, length, take, drop, is_some, Some, None, Ok, Err, Option, sym, refl, ap, ◌∙◌, subst, ⊎_elim, arith}
use Rattle.std.proofs.lemmas.List.{drop-drop, take_all}
use Rattle.std.proofs.lemmas.Bool.{cases_lt, lt-leb, le-ltb, false≢true}
use Rattle.sheet.specs.declared.refusal.SheetRefusal.{SheetRefusal}
use Rattle.sheet.specs.declared.refusal.SheetRefusal.TheVariants.{OverCount, ShortSheet}
use Rattle.sheet.specs.Bytes.{bodies_length}
use Rattle.sheet.specs.States.{State, Written, put_refusal_by}
use Rattle.sheet.proofs.Lengths.{length_sheet}
use Rattle.sheet_reader.proofs.ReadBack.{rule_short, sounds_short}
use Rattle.file.specs.Parts.{Part}
use Rattle.book_sheet.specs.Sheets.{put, answers_from, complete}
use Rattle.book_to_sheet.specs.Entries.{numbered_steps}
use Rattle.book_to_sheet.specs.Filled.{EntryPut}
use Rattle.book_to_sheet.proofs.EntryByEntry.{answers_more, among_answers, bodies_together}

abbrev put_by : State → Bool → Bool → Option SheetRefusal
put_by s over short = cond over (Some OverCount) (cond short (Some ShortSheet) None)

-- with the answers to the first n entries put, behind which this rest stood
pub record PutSoFar (all : List Part) (s₀ s : State) (buffer₀ buffer : List ℕ) (n : ℕ) : Type 0 where
  pub declared : s.declared ≡ s₀.declared
  pub written : (rest : List ℕ) → Written s₀ buffer₀ [] rest → Written s buffer (answers_from all (take n all)) (drop (bodies_length (answers_from all (take n all))) rest)

pub put_none : (all : List Part) (s : State) (buffer : List ℕ) → PutSoFar all s s buffer buffer 0
put_none all s buffer = record { declared = refl; written = λ rest w. w }

module _ (all : List Part) (s₀ s s' : State) (buffer₀ buffer buffer' : List ℕ) (n : ℕ) (there : n < length all) (so_far : PutSoFar all s₀ s buffer₀ buffer n) where
  pub put_more : (u : Unit {0}) → EntryPut (numbered_steps all n) s s' buffer buffer' (Ok u) → PutSoFar all s₀ s' buffer₀ buffer' (n + 1)
  put_more u e =
      let now = answers_from all (take n all) in
      let one = put (numbered_steps all n) [] in
      let more : answers_from all (take (n + 1) all) ≡ now ++ one = answers_more all all n there in
      record {
        declared = e.0 ∙ so_far.declared;
        written = λ rest w.
            let behind : drop (bodies_length one) (drop (bodies_length now) rest) ≡ drop (bodies_length (now ++ one)) rest =
            drop-drop (bodies_length one) (bodies_length now) rest ∙ ap (λ k. drop k rest) (sym (bodies_together now one)) in
            subst (λ xs. Written s' buffer' xs (drop (bodies_length xs) rest)) (sym more)
            (subst (λ ys. Written s' buffer' (now ++ one) ys) behind (e.1 now (drop (bodies_length now) rest) (so_far.written rest w)));
      }

-- all answers are put
pub put_all : (all : List Part) (s₀ s : State) (buffer₀ buffer : List ℕ) (n : ℕ) → length all ≤ n → PutSoFar all s₀ s buffer₀ buffer n →
    (rest : List ℕ) → Written s₀ buffer₀ [] rest → (s.declared ≡ s₀.declared) × Written s buffer (answers_from all all) (drop (bodies_length (answers_from all all)) rest)
put_all all s₀ s buffer₀ buffer n h p rest w = (p.declared, subst (λ es. Written s buffer (answers_from all es) (drop (bodies_length (answers_from all es)) rest)) (take_all n all h) (p.written rest w))

-- a body that keeps its rule, and for which a row is free, is refused for want of room
no_room : (s : State) (k room : ℕ) → s.filled < s.declared → is_some (put_refusal_by s true k room) ≡ true → room < s.end + (10 + 2 * k)
no_room s k room h e = ⊎_elim (λ lower. lower) wide (cases_lt room (s.end + (10 + 2 * k)))
  where
    wide : s.end + (10 + 2 * k) ≤ room → room < s.end + (10 + 2 * k)
    wide far =
        let free = ap (λ b. put_by s b (ltb room (s.end + (10 + 2 * k)))) (lt-leb s.declared s.filled h) in
        let fits = ap (put_by s false) (le-ltb room (s.end + (10 + 2 * k)) far) in
        absurd (false≢true (sym (ap is_some (free ∙ fits)) ∙ e))

-- a body that does not fit makes the whole sheet too long
module _ (all : List Part) (s₀ s s' : State) (buffer₀ buffer buffer' : List ℕ) (n : ℕ) (there : n < length all) (so_far : PutSoFar all s₀ s buffer₀ buffer n) where
  pub refused_short : (r : SheetRefusal) → length buffer ≡ length buffer₀ → EntryPut (numbered_steps all n) s s' buffer buffer' (Err r) → length (answers_from all all) ≤ 64 →
      (rest : List ℕ) → Written s₀ buffer₀ [] rest → s₀.declared ≡ length (answers_from all all) → (length buffer₀ < length (complete (answers_from all all))) × (length buffer₀ ≤ 65535)
  refused_short r long (b, is, kept, refused) few rest w₀ jobs =
      let w = so_far.written rest w₀ in
      let now = answers_from all (take n all) in
      let among = among_answers all all n b there is in
      let free : s.filled < s.declared = omega (arith, w.filled, so_far.declared, among.number) in
      let by-rule : is_some (put_refusal_by s true (length b.operations) (length buffer)) ≡ true = sym (ap (λ k. is_some (put_refusal_by s k (length b.operations) (length buffer))) kept) ∙ refused in
      let short = no_room s (length b.operations) (length buffer) free by-rule in
      let now-long = length_sheet s.declared now in
      let all-long = length_sheet (length (answers_from all all)) (answers_from all all) in
      let sounds = sounds_short now w.sound in
      let one : length b.operations ≤ 255 = rule_short b.answer b.count (length b.operations) kept in
      (omega (arith, short, long, now-long, all-long, among.bytes, among.number, w.end, w.filled, so_far.declared, jobs), omega (arith, short, long, now-long, sounds, one, w.end, w.filled, among.number, few, so_far.declared, jobs))
