-- A mark that is turned over makes a setting marked or takes it back, and leaves every other mark. Assumes nothing.
use Rattle.std.proofs.Common.{◌≡◌, ℕ, zero, suc, ◌+◌, ◌-◌, ◌/◌, ◌%◌, ◌^◌, ◌<◌, ◌≤◌, Bool, true, false, ◌||◌, eqb, ◌≢◌, List, [], ◌∷◌, ◌++◌, length, get_or, drop, replicate, sym, refl, ap, ◌∙◌, subst, ⊎_elim, pow-suc, arith, length-set}
use native.Mathlib.Nat.{div-eq_of_lt, div_self, mul-mod_left}
use lib.Bits.{bit_xor, xor_zero_r}
use lib.ListN.{length-replicate}
use Rattle.std.proofs.lemmas.Nat.{pow_pos, pow-add, pow_below, shl-shr, mod_below, xor_shr, xor_mod}
use Rattle.std.proofs.lemmas.List.{drop_more, get_or-set_same, get_or-set_other, get_or-replicate}
use Rattle.std.proofs.lemmas.Bool.{cases_eq, cases_order, eqb-true, eqb-false, eq-eqb, ne_eqb, or_right, true≢false}
use Rattle.legs.specs.Layers.{has}
use Rattle.legs.specs.Laws.{Distinct}
use Rattle.legs.proofs.Members.{has_here, has_append}
use Rattle.legs.proofs.Distinct.{distinct_append}
use Rattle.search.specs.Marked.{mark_of, turned, Marked}

-- a power of two has a single bit
bit_other : (j k : ℕ) → j ≢ k → 2 ^ j / 2 ^ k % 2 ≡ 0
bit_other j k ne =
    ⊎_elim (λ e. absurd (ne e)) (λ way. ⊎_elim lower higher way) (cases_order j k)
  where
    lower : j < k → 2 ^ j / 2 ^ k % 2 ≡ 0
    lower h = ap (λ n. n % 2) (div-eq_of_lt (pow_below j k h))

    higher : k < j → 2 ^ j / 2 ^ k % 2 ≡ 0
    higher h =
        let split : j ≡ suc (j - k - 1) + k = omega (arith, h) in
        ap (λ n. 2 ^ n / 2 ^ k % 2) split ∙ ap (λ n. n / 2 ^ k % 2) (pow-add 2 (suc (j - k - 1)) k)
        ∙ ap (λ n. n % 2) (shl-shr (2 ^ suc (j - k - 1)) k) ∙ ap (λ n. n % 2) (pow-suc 2 (j - k - 1)) ∙ mul-mod_left (2 ^ (j - k - 1)) 2

bit_same : (k : ℕ) → 2 ^ k / 2 ^ k % 2 ≡ 1
bit_same k = ap (λ n. n % 2) (div_self (pow_pos k))

xor_bit : (x y k : ℕ) → bit_xor x y / 2 ^ k % 2 ≡ bit_xor (x / 2 ^ k % 2) (y / 2 ^ k % 2)
xor_bit x y k = ap (λ n. n % 2) (xor_shr x y k) ∙ xor_mod (x / 2 ^ k) (y / 2 ^ k) 1

-- the other one of 0 and 1
other_bit : (b : ℕ) → b < 2 → bit_xor b 1 ≡ 1 - b
other_bit zero h = refl
other_bit (suc zero) h = refl
other_bit (suc (suc b)) h = absurd (omega arith)

mark_below : (memory : List ℕ) (u : ℕ) → mark_of memory u < 2
unfolding mark_of
mark_below memory u = mod_below (get_or memory (u / 32) 0 / 2 ^ (u % 32)) 2 (omega arith)

module _ (memory : List ℕ) (u : ℕ) (inside : u / 32 < length memory) where
  turned_same : mark_of (turned memory u) u ≡ 1 - mark_of memory u
  unfolding mark_of
  turned_same =
      ap (λ n. n / 2 ^ (u % 32) % 2) (get_or-set_same memory (u / 32) (bit_xor (get_or memory (u / 32) 0) (2 ^ (u % 32))) 0 inside)
      ∙ xor_bit (get_or memory (u / 32) 0) (2 ^ (u % 32)) (u % 32)
      ∙ ap (bit_xor (get_or memory (u / 32) 0 / 2 ^ (u % 32) % 2)) (bit_same (u % 32))
      ∙ other_bit (get_or memory (u / 32) 0 / 2 ^ (u % 32) % 2) (mark_below memory u)

  turned_other : (w : ℕ) → (u ≡ w → ⊥) → mark_of (turned memory u) w ≡ mark_of memory w
  unfolding mark_of
  turned_other w ne = ⊎_elim same_word other_word (cases_eq (w / 32) (u / 32))
    where
      same_word : w / 32 ≡ u / 32 → get_or (turned memory u) (w / 32) 0 / 2 ^ (w % 32) % 2 ≡ get_or memory (w / 32) 0 / 2 ^ (w % 32) % 2
      same_word e =
          let apart : u % 32 ≢ w % 32 = λ same. ne (omega (arith, e, same)) in
          ap (λ i. get_or (turned memory u) i 0 / 2 ^ (w % 32) % 2) e
          ∙ ap (λ n. n / 2 ^ (w % 32) % 2) (get_or-set_same memory (u / 32) (bit_xor (get_or memory (u / 32) 0) (2 ^ (u % 32))) 0 inside)
          ∙ xor_bit (get_or memory (u / 32) 0) (2 ^ (u % 32)) (w % 32)
          ∙ ap (bit_xor (get_or memory (u / 32) 0 / 2 ^ (w % 32) % 2)) (bit_other (u % 32) (w % 32) apart)
          ∙ xor_zero_r (get_or memory (u / 32) 0 / 2 ^ (w % 32) % 2)
          ∙ ap (λ i. get_or memory i 0 / 2 ^ (w % 32) % 2) (sym e)

      other_word : (w / 32 ≡ u / 32 → ⊥) → get_or (turned memory u) (w / 32) 0 / 2 ^ (w % 32) % 2 ≡ get_or memory (w / 32) 0 / 2 ^ (w % 32) % 2
      other_word other = ap (λ n. n / 2 ^ (w % 32) % 2) (get_or-set_other memory (u / 32) (w / 32) (bit_xor (get_or memory (u / 32) 0) (2 ^ (u % 32))) 0 other)

-- the settings with one more behind them
once_more : (ss : List ℕ) (v : ℕ) → has ss v ≡ false → Distinct ss → Distinct (ss ++ (v ∷ []))
once_more ss v new once =
    distinct_append ss (v ∷ []) once (refl, tt) (λ u before same. true≢false (sym (ap (has ss) (is u same) ∙ before) ∙ new))
  where
    is : (u : ℕ) → has (v ∷ []) u ≡ true → v ≡ u
    is u h = ⊎_elim (λ e. e) (λ ne. absurd (true≢false (sym h ∙ ap (λ b. b || false) (ne_eqb v u ne)))) (cases_eq v u)

has_more : (ss : List ℕ) (v u : ℕ) → (v ≡ u → ⊥) → has (ss ++ (v ∷ [])) u ≡ has ss u
has_more ss v u ne = has_append ss (v ∷ []) u ∙ ap (λ b. has ss u || (b || false)) (ne_eqb v u ne) ∙ or_false (has ss u)
  where
    or_false : (b : Bool) → (b || false) ≡ b
    or_false true = refl
    or_false false = refl

has_last : (ss : List ℕ) (v : ℕ) → has (ss ++ (v ∷ [])) v ≡ true
has_last ss v = has_append ss (v ∷ []) v ∙ or_right (has ss v) (has (v ∷ []) v) (has_here v v [] refl)

has_less : (ss : List ℕ) (v u : ℕ) → (v ≡ u → ⊥) → has (v ∷ ss) u ≡ has ss u
has_less ss v u ne = ap (λ b. b || has ss u) (ne_eqb v u ne)

-- no setting is marked
pub marked_none : (n : ℕ) → Marked (replicate n 0) []
unfolding mark_of
marked_none n =
    record { once = tt; tells = λ u inside. ap (λ b. eqb (b / 2 ^ (u % 32) % 2) 1) (get_or-replicate n (u / 32) 0 0 (omega (arith, inside, length-replicate {A = ℕ} n 0))) ∙ none (u % 32) }
  where
    none : (k : ℕ) → eqb (0 / 2 ^ k % 2) 1 ≡ false
    none k = ap (λ n. eqb (n % 2) 1) (div-eq_of_lt (pow_pos k))

-- the mark of a setting within the memory is turned over
module _ (memory : List ℕ) (v : ℕ) (inside : v / 32 < length memory) where
  abbrev long : length (turned memory v) ≡ length memory
  long = length-set memory (v / 32) (bit_xor (get_or memory (v / 32) 0) (2 ^ (v % 32)))

  pub marked_more : (ss : List ℕ) → has ss v ≡ false → Marked memory ss → Marked (turned memory v) (ss ++ (v ∷ []))
  marked_more ss new m =
      record { once = once_more ss v new m.once; tells = λ u low. ⊎_elim (here u) (there u (omega (arith, low, long))) (cases_eq v u) }
    where
      zero_before : mark_of memory v ≡ 0
      zero_before = let ne = eqb-false (mark_of memory v) 1 (m.tells v inside ∙ new) in omega (arith, mark_below memory v, ne)

      here : (u : ℕ) → v ≡ u → eqb (mark_of (turned memory v) u) 1 ≡ has (ss ++ (v ∷ [])) u
      here u e =
          let one : mark_of (turned memory v) v ≡ 1 = turned_same memory v inside ∙ omega (arith, zero_before) in
          subst (λ w. eqb (mark_of (turned memory v) w) 1 ≡ has (ss ++ (v ∷ [])) w) e (eq-eqb (mark_of (turned memory v) v) 1 one ∙ sym (has_last ss v))

      there : (u : ℕ) → u / 32 < length memory → (v ≡ u → ⊥) → eqb (mark_of (turned memory v) u) 1 ≡ has (ss ++ (v ∷ [])) u
      there u low ne = ap (λ b. eqb b 1) (turned_other memory v inside u ne) ∙ m.tells u low ∙ sym (has_more ss v u ne)

  pub marked_less : (ss : List ℕ) → Marked memory (v ∷ ss) → Marked (turned memory v) ss
  marked_less ss m =
      record { once = m.once.1; tells = λ u low. ⊎_elim (here u) (there u (omega (arith, low, long))) (cases_eq v u) }
    where
      one_before : mark_of memory v ≡ 1
      one_before = eqb-true (mark_of memory v) 1 (m.tells v inside ∙ has_here v v ss refl)

      here : (u : ℕ) → v ≡ u → eqb (mark_of (turned memory v) u) 1 ≡ has ss u
      here u e =
          let none : mark_of (turned memory v) v ≡ 0 = turned_same memory v inside ∙ omega (arith, one_before) in
          subst (λ w. eqb (mark_of (turned memory v) w) 1 ≡ has ss w) e (ap (λ b. eqb b 1) none ∙ sym m.once.0)

      there : (u : ℕ) → u / 32 < length memory → (v ≡ u → ⊥) → eqb (mark_of (turned memory v) u) 1 ≡ has ss u
      there u low ne = ap (λ b. eqb b 1) (turned_other memory v inside u ne) ∙ m.tells u low ∙ has_less ss v u ne

-- a setting past the memory has no mark
module _ (memory : List ℕ) (v : ℕ) (past : length memory ≤ v / 32) where
  pub marked_past_more : (ss : List ℕ) → has ss v ≡ false → Marked memory ss → Marked memory (ss ++ (v ∷ []))
  marked_past_more ss new m =
      record { once = once_more ss v new m.once; tells = λ u low. m.tells u low ∙ sym (has_more ss v u (λ e. omega (arith, past, low, e))) }

  pub marked_past_less : (ss : List ℕ) → Marked memory (v ∷ ss) → Marked memory ss
  marked_past_less ss m = record { once = m.once.1; tells = λ u low. m.tells u low ∙ has_less ss v u (λ e. omega (arith, past, low, e)) }

-- the settings from place i on are the one there and those behind it
pub next_first : (ss : List ℕ) (i v : ℕ) → i < length ss → get_or ss i 0 ≡ v → drop i ss ≡ v ∷ drop (i + 1) ss
next_first ss i v h is = drop_more ss i 0 h ∙ ap (λ u. u ∷ drop (i + 1) ss) is
