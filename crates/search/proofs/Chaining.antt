-- Chains lead to every place of their bucket, also after one more place is put in front. Assumes nothing.
use Rattle.std.proofs.Common.{◌≡◌, ℕ, zero, suc, ◌+◌, ◌-◌, ◌*◌, ◌%◌, ◌<◌, ◌≤◌, false, eqb, ◌≢◌, List, [], ◌∷◌, ◌++◌, length, get_or, take, set, sym, refl, ap, ◌∙◌, subst, ⊎_elim, arith, length-append, length-set}
use Rattle.std.proofs.lemmas.Nat.{mod_below, mul-add-lt, div_below}
use Rattle.std.proofs.lemmas.List.{get_or_append_left, get_or-append_right, get_or-set_same, get_or-set_other, take_more}
use Rattle.std.proofs.lemmas.Bool.{cases_eq, cases_lt, ne_eqb, or_from}
use Rattle.legs.specs.Layers.{has}
use Rattle.search.specs.Chained.{bucket_of, head_of, Down, Chained}

pub bucket_below : (heads u : ℕ) → 0 < heads → bucket_of heads u < heads
unfolding bucket_of
bucket_below heads u h =
    let spread : ℕ = u * 2654435769 % 4294967296 in
    let low : spread < 4294967296 = mod_below (u * 2654435769) 4294967296 (omega arith) in
    div_below (spread * heads) 4294967296 heads (omega arith) (omega (arith, mul-add-lt spread heads 0 4294967296 low h))

-- a way down begins below the place before it
pub down_below : (memory : List ℕ) (heads : ℕ) (ss : List ℕ) (b k above p i : ℕ) → Down memory heads ss b k above p i → p < above
down_below memory heads ss b zero above p i d = d.0
down_below memory heads ss b (suc k) above p i d = d.0

-- place n for the setting v before the others of its bucket
module _ (memory : List ℕ) (links heads : ℕ) (ss : List ℕ) (v n : ℕ) (before : Chained memory links heads ss) (some : 0 < heads) (here : length ss ≡ n) (free : n < links) where
  abbrev head : ℕ
  head = links + bucket_of heads v

  abbrev after : List ℕ
  after = set (set memory n (head_of memory links heads v)) head n

  abbrev all : List ℕ
  all = ss ++ (v ∷ [])

  long_all : length all ≡ n + 1
  long_all = length-append ss (v ∷ []) ∙ omega (arith, here)

  head_inside : head < length memory
  head_inside = omega (arith, bucket_below heads v some, before.long)

  -- other numbers stay
  stays : (q : ℕ) → q ≢ n → q ≢ head → get_or after q 0 ≡ get_or memory q 0
  stays q other another =
      get_or-set_other (set memory n (head_of memory links heads v)) head q n 0 another ∙ get_or-set_other memory n q (head_of memory links heads v) 0 other

  links_on : get_or after n 0 ≡ head_of memory links heads v
  links_on =
      get_or-set_other (set memory n (head_of memory links heads v)) head n n 0 (λ e. omega (arith, e, free))
      ∙ get_or-set_same memory n (head_of memory links heads v) 0 (omega (arith, free, head_inside))

  heads_new : get_or after head 0 ≡ n
  heads_new = get_or-set_same (set memory n (head_of memory links heads v)) head n 0 (omega (arith, head_inside, length-set memory n (head_of memory links heads v)))

  -- a way down stays one
  down_stays : (b k above above' p i : ℕ) → above ≤ above' → above ≤ n → Down memory heads ss b k above p i → Down after heads all b k above' p i
  down_stays b zero above above' p i wide low d = (omega (arith, wide, d.0), d.1)
  down_stays b (suc k) above above' p i wide low d =
      let below : p < n = omega (arith, low, d.0) in
      let same : get_or after p 0 ≡ get_or memory p 0 = stays p (λ e. omega (arith, e, below)) (λ e. omega (arith, e, below, free)) in
      let rest : Down after heads all b k p (get_or memory p 0) i = down_stays b k p p (get_or memory p 0) i (omega arith) (omega (arith, below)) d.2 in (
        omega (arith, wide, d.0),
        ap (bucket_of heads) (get_or_append_left ss (v ∷ []) 0 p (omega (arith, below, here))) ∙ d.1,
        subst (λ q. Down after heads all b k p q i) (sym same) rest,
      )

  -- a place can be found from the head of a setting's bucket
  abbrev Found : ℕ → ℕ → Type 0
  Found u i = (k : ℕ) × Down after heads all (bucket_of heads u) k (length all) (head_of after links heads u) i

  -- the places before are found as before, or by way of the new one
  found_before : (u i : ℕ) (k : ℕ) → Down memory heads ss (bucket_of heads u) k (length ss) (head_of memory links heads u) i → Found u i
  found_before u i k d =
      ⊎_elim same_bucket other_bucket (cases_eq (bucket_of heads u) (bucket_of heads v))
    where
      low : head_of memory links heads u < n
      low = omega (arith, down_below memory heads ss (bucket_of heads u) k (length ss) (head_of memory links heads u) i d, here)

      same_bucket : bucket_of heads u ≡ bucket_of heads v → Found u i
      same_bucket e =
          let on : get_or after n 0 ≡ head_of memory links heads u = links_on ∙ ap (λ b. get_or memory (links + b) 0) (sym e) in
          let first : head_of after links heads u ≡ n = ap (λ b. get_or after (links + b) 0) e ∙ heads_new in
          let new : bucket_of heads (get_or all n 0) ≡ bucket_of heads u = ap (bucket_of heads) at_end ∙ sym e in
          let rest : Down after heads all (bucket_of heads u) k n (get_or after n 0) i =
          subst (λ q. Down after heads all (bucket_of heads u) k n q i) (sym on) (down_stays (bucket_of heads u) k (length ss) n (head_of memory links heads u) i (omega (arith, here)) (omega (arith, here)) d) in
          (suc k, subst (λ q. Down after heads all (bucket_of heads u) (suc k) (length all) q i) (sym first) (omega (arith, long_all), new, rest))
        where
          at_end : get_or all n 0 ≡ v
          at_end = let none : n - n ≡ 0 = omega arith in get_or-append_right ss (v ∷ []) n n 0 here (omega arith) ∙ ap (λ j. get_or (v ∷ []) j 0) none

      other_bucket : (bucket_of heads u ≡ bucket_of heads v → ⊥) → Found u i
      other_bucket ne =
          let same : head_of after links heads u ≡ head_of memory links heads u = stays (links + bucket_of heads u) (λ e. omega (arith, e, free)) (λ e. ne (omega (arith, e))) in
          (k, subst (λ q. Down after heads all (bucket_of heads u) k (length all) q i) (sym same) (down_stays (bucket_of heads u) k (length ss) (length all) (head_of memory links heads u) i (omega (arith, long_all, here)) (omega (arith, here)) d))

  pub chained_more : Chained after links heads all
  chained_more =
      record {
        linked = omega (arith, long_all, free);
        long = omega (arith, before.long, length-set memory n (head_of memory links heads v), length-set (set memory n (head_of memory links heads v)) head n);
        found = λ i below. ⊎_elim (old i) (λ past. new i (omega (arith, past, below, long_all))) (cases_lt i n);
      }
    where
      old : (i : ℕ) → i < n → Found (get_or all i 0) i
      old i below =
          let is : get_or all i 0 ≡ get_or ss i 0 = get_or_append_left ss (v ∷ []) 0 i (omega (arith, below, here)) in
          let was = before.found i (omega (arith, below, here)) in
          subst (λ u. Found u i) (sym is) (found_before (get_or ss i 0) i was.0 was.1)

      new : (i : ℕ) → i ≡ n → Found (get_or all i 0) i
      new i e =
          let none : i - n ≡ 0 = omega (arith, e) in
          let is : get_or all i 0 ≡ v = get_or-append_right ss (v ∷ []) n i 0 here (omega (arith, e)) ∙ ap (λ j. get_or (v ∷ []) j 0) none in
          subst (λ u. Found u i) (sym is) (zero, (omega (arith, heads_new, long_all), heads_new ∙ sym e))

-- no place, then not there
pub nowhere : (ss : List ℕ) (u : ℕ) → ((i : ℕ) → i < length ss → get_or ss i 0 ≡ u → ⊥) → has ss u ≡ false
nowhere [] u h = refl
nowhere (s ∷ ss) u h = or_from (eqb s u) (has ss u) (ne_eqb s u (h 0 (omega arith))) (nowhere ss u (λ i below e. h (suc i) (omega (arith, below)) e))

-- the places of a setting that a walk along its chain has yet to come to
abbrev pub Left : List ℕ → ℕ → List ℕ → ℕ → ℕ → ℕ → Type 0
Left memory heads ss u above p = (i : ℕ) → i < length ss → get_or ss i 0 ≡ u → (k : ℕ) × Down memory heads ss (bucket_of heads u) k above p i

module _ (memory : List ℕ) (heads : ℕ) (ss : List ℕ) (u above p : ℕ) (left : Left memory heads ss u above p) where
  -- the chain has ended
  pub left_none : above ≤ p → has ss u ≡ false
  left_none past = nowhere ss u (λ i below is. let d = left i below is in omega (arith, down_below memory heads ss (bucket_of heads u) d.0 above p i d.1, past))

  -- the chain leads out of its bucket
  pub left_bucket : (get_or ss p 0 ≡ u → ⊥) → (bucket_of heads (get_or ss p 0) ≡ bucket_of heads u → ⊥) → has ss u ≡ false
  left_bucket other another = nowhere ss u (λ i below is. let d = left i below is in stuck d.0 i is d.1)
    where
      stuck : (k i : ℕ) → get_or ss i 0 ≡ u → Down memory heads ss (bucket_of heads u) k above p i → ⊥
      stuck zero i is d = other (ap (λ j. get_or ss j 0) d.1 ∙ is)
      stuck (suc k) i is d = another d.1

  -- one link on
  pub left_next : (get_or ss p 0 ≡ u → ⊥) → Left memory heads ss u p (get_or memory p 0)
  left_next other = λ i below is. let d = left i below is in on d.0 i is d.1
    where
      on : (k i : ℕ) → get_or ss i 0 ≡ u → Down memory heads ss (bucket_of heads u) k above p i → (j : ℕ) × Down memory heads ss (bucket_of heads u) j p (get_or memory p 0) i
      on zero i is d = absurd (other (ap (λ j. get_or ss j 0) d.1 ∙ is))
      on (suc k) i is d = (k, d.2)

-- from the head on all are left
pub left_all : (memory : List ℕ) (links heads : ℕ) (ss : List ℕ) (u : ℕ) → Chained memory links heads ss → Left memory heads ss u (length ss) (head_of memory links heads u)
left_all memory links heads ss u all = λ i below is. subst (λ w. (k : ℕ) × Down memory heads ss (bucket_of heads w) k (length ss) (head_of memory links heads w) i) is (all.found i below)

-- the settings as far as place i, with the one there
pub entered_more : (ss : List ℕ) (i v : ℕ) → i < length ss → get_or ss i 0 ≡ v → take (i + 1) ss ≡ take i ss ++ (v ∷ [])
entered_more ss i v inside is = take_more ss i 0 inside ∙ ap (λ w. take i ss ++ (w ∷ [])) is
