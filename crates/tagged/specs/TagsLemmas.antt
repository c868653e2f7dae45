-- Laws of the tags over a lawful plant: they come in pairs, and a tag covers an operation and its reverse alone.
use Rattle.std.specs.Prelude.{◌≡◌, ℕ, ◌<◌, Bool, true, false, cond, ◌&&◌, ◌||◌, ◌≢◌, List, length, get_or, nat_lt, slice_index_or, slice_set, refl}
use Rattle.std.proofs.Common.{sym, ap, subst, ◌∙◌, ⊎_elim, arith}
use Rattle.std.proofs.lemmas.List.{length-set, length-replicate, get_or-replicate, get_or_past, get_or-set_same, get_or-set_other}
use Rattle.std.proofs.lemmas.Bool.{cases_eq, cases_lt, lt-ltb, eq-eqb, ne_eqb, and_right, or_left, or_right, or_from, cond-true, cond-false}
use Rattle.plant.specs.Meaning.{Meaning}
use Rattle.plant.specs.Laws.{Lawful}
use Rattle.tagged.specs.Tags.{untagged, bears, covers, cover, Covered}

or_swapped : (a b : Bool) → (a || b) ≡ (b || a)
or_swapped true true = refl
or_swapped true false = refl
or_swapped false true = refl
or_swapped false false = refl

or_same : (a : Bool) → (true && (a || a)) ≡ a
or_same true = refl
or_same false = refl

-- at the start no operation bears a tag
untagged_place : (o : ℕ) → slice_index_or untagged o false ≡ false
untagged_place o = ⊎_elim (get_or-replicate 2048 o false false) (λ h. get_or_past untagged o false (rw (length-replicate 2048 false) h)) (cases_lt o 2048)

pub bears_untagged : (m : Meaning) (o : ℕ) → bears m untagged o ≡ false
bears_untagged m o = and_right (nat_lt o m.operations) _ (or_from _ _ (untagged_place o) (untagged_place (m.reverse o)))

-- an operation bears a tag exactly when its reverse does
pub bears_reverse : (m : Meaning) (tags : List Bool) → Lawful m → (o : ℕ) → bears m tags (m.reverse o) ≡ bears m tags o
bears_reverse m tags l o =
    ⊎_elim
    (λ h. ap (λ r. nat_lt (m.reverse o) m.operations && (slice_index_or tags (m.reverse o) false || slice_index_or tags r false)) (l.reverse_twice o)
    ∙ ap (λ b. b && (slice_index_or tags (m.reverse o) false || slice_index_or tags o false)) (lt-ltb _ _ (l.reverse_within o h) ∙ sym (lt-ltb _ _ h))
    ∙ ap (λ b. nat_lt o m.operations && b) (or_swapped (slice_index_or tags (m.reverse o) false) (slice_index_or tags o false)))
    (λ h. ap (bears m tags) (l.reverse_past o h))
    (cases_lt o m.operations)

-- what stands at either of two places after a write at both
written_first : (tags : List Bool) (o r : ℕ) (on : Bool) → o < length tags → slice_index_or (slice_set (slice_set tags o on) r on) o false ≡ on
written_first tags o r on h =
    ⊎_elim
    (λ e. let within : o < length (slice_set tags o on) = simp length-set h in ap (λ k. get_or (slice_set (slice_set tags o on) k on) o false) (sym e) ∙ get_or-set_same (slice_set tags o on) o on false within)
    (λ ne. get_or-set_other (slice_set tags o on) r o on false ne ∙ get_or-set_same tags o on false h)
    (cases_eq o r)

written_second : (tags : List Bool) (o r : ℕ) (on : Bool) → r < length tags → slice_index_or (slice_set (slice_set tags o on) r on) r false ≡ on
written_second tags o r on h =
    let within : r < length (slice_set tags o on) = simp length-set h in
    get_or-set_same (slice_set tags o on) r on false within

written_elsewhere : (tags : List Bool) (o r k : ℕ) (on : Bool) → k ≢ o → k ≢ r → slice_index_or (slice_set (slice_set tags o on) r on) k false ≡ slice_index_or tags k false
written_elsewhere tags o r k on ne ne' = get_or-set_other (slice_set tags o on) r k on false ne' ∙ get_or-set_other tags o k on false ne

-- the operation itself bears what was put
bears_covered : (m : Meaning) (tags : List Bool) (o : ℕ) (on : Bool) → Lawful m → length tags ≡ 2048 → o < m.operations → bears m (cover m tags o on) o ≡ on
bears_covered m tags o on l long h =
    let most = l.operations_most in
    let back = l.reverse_within o h in
    let first : get_or (cover m tags o on) o false ≡ on = written_first tags o (m.reverse o) on (omega arith) in
    let second : get_or (cover m tags o on) (m.reverse o) false ≡ on = written_second tags o (m.reverse o) on (omega arith) in
    rw (lt-ltb o m.operations h, first, second) (or_same on)

-- any other operation bears what it bore
bears_elsewhere : (m : Meaning) (tags : List Bool) (o k : ℕ) (on : Bool) → Lawful m → k ≢ o → k ≢ m.reverse o → bears m (cover m tags o on) k ≡ bears m tags k
bears_elsewhere m tags o k on l ne ne' =
    let twice = l.reverse_twice in
    let here : get_or (cover m tags o on) k false ≡ get_or tags k false = written_elsewhere tags o (m.reverse o) k on ne ne' in
    let there : get_or (cover m tags o on) (m.reverse k) false ≡ get_or tags (m.reverse k) false =
    written_elsewhere tags o (m.reverse o) (m.reverse k) on
    (λ e. ne' (sym (twice k) ∙ ap m.reverse e))
    (λ e. ne (sym (twice k) ∙ ap m.reverse e ∙ twice o)) in
    rw (here, there)

-- a tag, or the end of one, covers the operation and its reverse alone
pub covered_only : (m : Meaning) (tags : List Bool) (o : ℕ) (on : Bool) → Lawful m → length tags ≡ 2048 → o < m.operations → (k : ℕ) → bears m (cover m tags o on) k ≡ cond (covers m o k) on (bears m tags k)
covered_only m tags o on l long h k =
    let after = cover m tags o on in
    ⊎_elim
    (λ e. ap (bears m after) e ∙ bears_covered m tags o on l long h
    ∙ sym (cond-true (covers m o k) _ _ (or_left _ _ (eq-eqb k o e))))
    (λ ne. ⊎_elim
    (λ e. ap (bears m after) e ∙ bears_reverse m after l o ∙ bears_covered m tags o on l long h
    ∙ sym (cond-true (covers m o k) _ _ (or_right _ _ (eq-eqb k (m.reverse o) e))))
    (λ ne'. bears_elsewhere m tags o k on l ne ne'
    ∙ sym (cond-false (covers m o k) _ _ (or_from _ _ (ne_eqb k o ne) (ne_eqb k (m.reverse o) ne'))))
    (cases_eq k (m.reverse o)))
    (cases_eq k o)

-- a write at an operation and at its reverse r
pub written_both : (m : Meaning) (tags : List Bool) (o r : ℕ) (on : Bool) → Lawful m → length tags ≡ 2048 → o < m.operations → r ≡ m.reverse o → Covered m tags o on (slice_set (slice_set tags o on) r on)
written_both m tags o r on l long h is =
    let At : ℕ → Type 0 = λ k. Covered m tags o on (slice_set (slice_set tags o on) k on) in
    subst At (sym is) record { tags_are = refl; only_these = covered_only m tags o on l long h }
