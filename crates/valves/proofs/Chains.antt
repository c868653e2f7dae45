-- The rows of one valve's interlocks, found one after another, and that no other row bars it. Assumes nothing.
use Rattle.std.proofs.Common.{◌≡◌, ℕ, suc, ◌+◌, ◌-◌, ◌<◌, ◌≤◌, Bool, true, false, cond, ◌&&◌, ◌||◌, eqb, List, [], ◌∷◌, length, get_or, drop, set, sym, refl, ap, ◌∙◌, ⊎_elim, add-one, arith, length-drop, get_or-set_other, get_or-set_same}
use Rattle.std.proofs.lemmas.List.{drop_more, drop_all, drop-drop, get_or-drop, get_or_default}
use Rattle.std.proofs.lemmas.Bool.{cases_eq, eqb-true, eq-eqb, ne_eqb, cond-true, cond-false, and_left}
use Rattle.valves.specs.declared.interlock.Interlock.{Interlock}
use Rattle.valves.specs.Interlocks.{applies_to, bars, barred, row_of, row_from}

-- one row further
pub row_more : (ls : List Interlock) (v r : ℕ) (d : Interlock) → r < length ls → row_from ls v r ≡ cond (eqb (get_or ls r d).valve v) r (row_from ls v (suc r))
row_more ls v r d h =
    ap (λ x. row_of v x r) (drop_more ls r d h) ∙ ap (λ x. cond (eqb (get_or ls r d).valve v) r (row_of v (drop x ls) (suc r))) (add-one r)

-- past the last row there is none
pub row_past : (ls : List Interlock) (v r : ℕ) → length ls ≤ r → row_from ls v r ≡ r
row_past ls v r h = ap (λ x. row_of v x r) (drop_all r ls h)

-- the first of some rows is not before them, and not past their end
fits_by : (b : Bool) (r f n : ℕ) → (suc r ≤ f) × (f ≤ suc r + n) → (r ≤ cond b r f) × (cond b r f ≤ r + suc n)
fits_by true r f n h = (omega arith, omega arith)
fits_by false r f n h = (omega arith, omega arith)

row_of_fits : (ls : List Interlock) (v r : ℕ) → (r ≤ row_of v ls r) × (row_of v ls r ≤ r + length ls)
row_of_fits [] v r = (omega arith, omega arith)
row_of_fits (l ∷ ls) v r = fits_by (eqb l.valve v) r (row_of v ls (suc r)) (length ls) (row_of_fits ls v (suc r))

pub row_from_least : (ls : List Interlock) (v r : ℕ) → r ≤ row_from ls v r
row_from_least ls v r = (row_of_fits (drop r ls) v r).0

pub row_from_most : (ls : List Interlock) (v r : ℕ) → r ≤ length ls → row_from ls v r ≤ length ls
row_from_most ls v r h = let most = (row_of_fits (drop r ls) v r).1 in let long = length-drop r ls in omega arith

-- what is found is a row of the valve
valve_by : (b : Bool) (l : Interlock) (ls : List Interlock) (v r : ℕ) (d : Interlock) → eqb l.valve v ≡ b → ((row_of v ls (suc r) - suc r) < length ls → (get_or ls (row_of v ls (suc r) - suc r) d).valve ≡ v) → (cond b r (row_of v ls (suc r)) - r) < suc (length ls) → (get_or (l ∷ ls) (cond b r (row_of v ls (suc r)) - r) d).valve ≡ v
valve_by true l ls v r d e rest h = ap (λ x. (get_or (l ∷ ls) x d).valve) zero_there ∙ eqb-true _ _ e
  where
    zero_there : r - r ≡ 0
    zero_there = omega arith
valve_by false l ls v r d e rest h = ap (λ x. (get_or (l ∷ ls) x d).valve) one_less ∙ rest (omega (arith, least))
  where
    least : suc r ≤ row_of v ls (suc r)
    least = (row_of_fits ls v (suc r)).0

    one_less : row_of v ls (suc r) - r ≡ suc (row_of v ls (suc r) - suc r)
    one_less = omega (arith, least)

row_of_valve : (ls : List Interlock) (v r : ℕ) (d : Interlock) → (row_of v ls r - r) < length ls → (get_or ls (row_of v ls r - r) d).valve ≡ v
row_of_valve [] v r d h = absurd (omega arith)
row_of_valve (l ∷ ls) v r d h = valve_by (eqb l.valve v) l ls v r d refl (row_of_valve ls v (suc r) d) h

pub row_from_valve : (ls : List Interlock) (v r : ℕ) (d : Interlock) → row_from ls v r < length ls → (get_or ls (row_from ls v r) d).valve ≡ v
row_from_valve ls v r d h =
    let least = row_from_least ls v r in
    let long = length-drop r ls in
    let there : get_or (drop r ls) (row_from ls v r - r) d ≡ get_or ls (row_from ls v r) d = get_or-drop r ls (row_from ls v r - r) d ∙ ap (λ x. get_or ls x d) (omega arith) in
    ap (λ x. x.valve) (sym there) ∙ row_of_valve (drop r ls) v r d (omega arith)

-- the rows passed over bar nothing
bars_none : (v p q : ℕ) (ps : List ℕ) (l : Interlock) (b : Bool) → eqb l.valve v ≡ false → (bars v p q ps l || b) ≡ b
bars_none v p q ps l b e = ap (λ x. x || b) (and_left _ _ e)

-- an interlock of the valve bars the moves that it applies to
pub bars_own : (v p q : ℕ) (ps : List ℕ) (l : Interlock) → l.valve ≡ v → bars v p q ps l ≡ applies_to p q ps l
bars_own v p q ps l e = ap (λ x. x && applies_to p q ps l) (eq-eqb _ _ e)

module _ (v p q : ℕ) (ps : List ℕ) where
  skipped_by : (b : Bool) (l : Interlock) (ls : List Interlock) (r : ℕ) → eqb l.valve v ≡ b → barred v p q ps (drop (row_of v ls (suc r) - suc r) ls) ≡ barred v p q ps ls → barred v p q ps (drop (cond b r (row_of v ls (suc r)) - r) (l ∷ ls)) ≡ barred v p q ps (l ∷ ls)
  skipped_by true l ls r e rest = ap (λ x. barred v p q ps (drop x (l ∷ ls))) zero_there
    where
      zero_there : r - r ≡ 0
      zero_there = omega arith
  skipped_by false l ls r e rest =
      ap (λ x. barred v p q ps (drop x (l ∷ ls))) one_less ∙ (rest ∙ sym (bars_none v p q ps l (barred v p q ps ls) e))
    where
      least : suc r ≤ row_of v ls (suc r)
      least = (row_of_fits ls v (suc r)).0

      one_less : row_of v ls (suc r) - r ≡ suc (row_of v ls (suc r) - suc r)
      one_less = omega (arith, least)

  barred_skipped : (ls : List Interlock) (r : ℕ) → barred v p q ps (drop (row_of v ls r - r) ls) ≡ barred v p q ps ls
  barred_skipped [] r = ap (barred v p q ps) (drop_all _ [] (omega arith))
  barred_skipped (l ∷ ls) r = skipped_by (eqb l.valve v) l ls r refl (barred_skipped ls (suc r))

  -- the rows from the one found on bar what the rows looked at bar
  pub barred_from : (ls : List Interlock) (r : ℕ) → barred v p q ps (drop (row_from ls v r) ls) ≡ barred v p q ps (drop r ls)
  barred_from ls r =
      let least = row_from_least ls v r in
      let split : drop (row_from ls v r) ls ≡ drop (row_from ls v r - r) (drop r ls) = sym (drop-drop (row_from ls v r - r) r ls ∙ ap (λ x. drop x ls) (omega arith)) in
      ap (barred v p q ps) split ∙ barred_skipped (drop r ls) r

  -- one row more
  pub barred_row : (ls : List Interlock) (r : ℕ) (d : Interlock) → r < length ls → barred v p q ps (drop r ls) ≡ (bars v p q ps (get_or ls r d) || barred v p q ps (drop (suc r) ls))
  barred_row ls r d h = ap (barred v p q ps) (drop_more ls r d h) ∙ ap (λ x. bars v p q ps (get_or ls r d) || barred v p q ps (drop x ls)) (add-one r)

-- the tables with one row more in front
module _ (ls : List Interlock) (r : ℕ) (d : Interlock) (within : r < length ls) where
  pub first_more : (first : List ℕ) (k : ℕ) → k ≤ length first → ((v : ℕ) → v < k → get_or first v 0 ≡ row_from ls v (suc r)) → (get_or ls r d).valve < k → (v : ℕ) → v < k → get_or (set first (get_or ls r d).valve r) v 0 ≡ row_from ls v r
  first_more first k long so inside v h = ⊎_elim same other (cases_eq v (get_or ls r d).valve)
    where
      same : v ≡ (get_or ls r d).valve → get_or (set first (get_or ls r d).valve r) v 0 ≡ row_from ls v r
      same e =
          ap (λ x. get_or (set first (get_or ls r d).valve r) x 0) e
          ∙ (get_or-set_same first (get_or ls r d).valve r 0 (omega arith)
          ∙ sym (row_more ls v r d within ∙ cond-true (eqb (get_or ls r d).valve v) r (row_from ls v (suc r)) (eq-eqb _ _ (sym e))))

      other : (v ≡ (get_or ls r d).valve → ⊥) → get_or (set first (get_or ls r d).valve r) v 0 ≡ row_from ls v r
      other ne =
          get_or-set_other first (get_or ls r d).valve v r 0 ne
          ∙ (so v h ∙ sym (row_more ls v r d within ∙ cond-false (eqb (get_or ls r d).valve v) r (row_from ls v (suc r)) (ne_eqb _ _ (λ e. ne (sym e)))))

  pub following_more : (following : List ℕ) (next : ℕ) → length ls ≤ length following → next ≡ row_from ls (get_or ls r d).valve (suc r) → ((i : ℕ) (e : Interlock) → suc r ≤ i → i < length ls → get_or following i 0 ≡ row_from ls (get_or ls i e).valve (suc i)) → (i : ℕ) (e : Interlock) → r ≤ i → i < length ls → get_or (set following r next) i 0 ≡ row_from ls (get_or ls i e).valve (suc i)
  following_more following next long is so i e h k = ⊎_elim same other (cases_eq i r)
    where
      same : i ≡ r → get_or (set following r next) i 0 ≡ row_from ls (get_or ls i e).valve (suc i)
      same q =
          ap (λ x. get_or (set following r next) x 0) q
          ∙ (get_or-set_same following r next 0 (omega arith)
          ∙ (is ∙ (ap (λ x. row_from ls x.valve (suc r)) (get_or_default ls r d e within) ∙ ap (λ x. row_from ls (get_or ls x e).valve (suc x)) (sym q))))

      other : (i ≡ r → ⊥) → get_or (set following r next) i 0 ≡ row_from ls (get_or ls i e).valve (suc i)
      other ne = get_or-set_other following r i next 0 ne ∙ so i e (omega arith) k
