-- An interlock bars a move exactly where it bars the move back. Assumes nothing.
use Rattle.std.specs.Prelude.{◌≡◌, ℕ, suc, ◌<◌, false, ◌&&◌, ◌||◌, List, [], ◌∷◌, length, ◌==◌, ◌≢◌, slice_index, slice_index_or, slice_set, refl}
use Rattle.std.proofs.Common.{sym, ap, ◌∙◌, ⊎_elim, arith, get_or-set_other}
use Rattle.std.proofs.Math.Bool.{or_comm}
use Rattle.std.proofs.lemmas.Bool.{cases_Bool, eqb-true, and_left}
use Rattle.valves.specs.declared.interlock.Interlock.{Interlock}
use Rattle.valves.specs.Interlocks.{bars, barred}

bars_of_another : (v p q : ℕ) (ps : List ℕ) (l : Interlock) → (l.valve == v) ≡ false → bars v p q ps l ≡ false
bars_of_another v p q ps l e = and_left _ _ e

bars_back : (v p q : ℕ) (ps : List ℕ) (l : Interlock) → (l.other ≢ l.valve) → bars v p q ps l ≡ bars v q p (slice_set ps v q) l
bars_back v p q ps l ne =
    ⊎_elim
    (λ e. let apart : l.other ≡ v → ⊥ = λ h. ne (h ∙ sym (eqb-true _ _ e)) in
    let stays : slice_index_or (slice_set ps v q) l.other 0 ≡ slice_index_or ps l.other 0 = get_or-set_other ps v l.other q 0 apart in
    ap (λ x. (l.valve == v) && (x && slice_index ps l.other == l.stands)) (or_comm (l.position == p) (l.position == q))
    ∙ ap (λ x. (l.valve == v) && ((l.position == q || l.position == p) && x == l.stands)) (sym stays))
    (λ e. bars_of_another v p q ps l e ∙ sym (bars_of_another v q p (slice_set ps v q) l e))
    (cases_Bool (l.valve == v))

pub barred_back : (v p q : ℕ) (ps : List ℕ) (ls : List Interlock) → ((r : ℕ) (d : Interlock) → r < length ls → (slice_index_or ls r d).other ≢ (slice_index_or ls r d).valve) → barred v p q ps ls ≡ barred v q p (slice_set ps v q) ls
barred_back v p q ps [] ne = refl
barred_back v p q ps (l ∷ ls) ne =
    ap (λ x. x || barred v p q ps ls) (bars_back v p q ps l (ne 0 l (omega arith)))
    ∙ ap (λ x. bars v q p (slice_set ps v q) l || x) (barred_back v p q ps ls (λ r d h. ne (suc r) d (omega arith)))
