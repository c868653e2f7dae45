-- Walking along one valve's interlocks finds out whether any bars a move. Assumes nothing.
use Rattle.std.proofs.Common.{◌≡◌, ℕ, suc, ◌<◌, ◌≤◌, true, false, ◌||◌, List, length, get_or, drop, sym, refl, ap, ◌∙◌, subst, arith}
use Rattle.std.proofs.lemmas.List.{drop_all, get_or-map}
use Rattle.valves.specs.declared.bench.Bench.{Bench}
use Rattle.valves.specs.declared.bench.valve.Valve.{Valve}
use Rattle.valves.specs.declared.bench.row.Row.{Row}
use Rattle.valves.specs.declared.interlock.Interlock.{Interlock}
use Rattle.valves.specs.Interlocks.{applies_to, barred, row_from}
use Rattle.valves.specs.Of.{counts_of, interlocks_of}
use Rattle.valves.proofs.Chains.{row_from_least, row_from_most, row_from_valve, bars_own, barred_from, barred_row}
use Rattle.valves.specs.Invariant.{data_of, counts_length, rows_length, row_at}

-- row r of the bench is y
module _ (b : Bench) (r : ℕ) (y : Row) (inside : r < length b.rows.items) (is : y ≡ get_or b.rows.items r y) where
  row_in : r < length (interlocks_of b)
  row_in = omega (arith, rows_length b)

  lock_is : get_or (interlocks_of b) r y.lock ≡ y.lock
  lock_is = row_at b r y y.lock inside ∙ ap (λ x. x.lock) (sym is)

  -- the other valve of an interlock exists
  pub other_in : y.lock.other < length b.valves.items
  other_in =
      let other = subst (λ x. x.other < length (counts_of b)) lock_is ((data_of b).ranged r y.lock row_in).other in
      omega (arith, counts_length b)

  -- the row after it is the next of the same valve
  next_is : y.following ≡ row_from (interlocks_of b) y.lock.valve (suc r)
  next_is =
      ap (λ x. x.following) is
      ∙ (sym (get_or-map _ b.rows.items r y 0 inside)
      ∙ (b.goes r y.lock row_in ∙ ap (λ x. row_from (interlocks_of b) x.valve (suc r)) lock_is))

  -- the walk goes up the rows
  pub next_above : r < y.following
  next_above = subst (λ x. r < x) (sym next_is) (row_from_least (interlocks_of b) y.lock.valve (suc r))

module _ (b : Bench) (v p q : ℕ) (ps : List ℕ) where
  -- the rows from this one on bar the move exactly where all rows do; it is one of the valve's, if it is a row
  pub record AtRow (row : ℕ) : Type 0 where
    pub within : row ≤ length b.rows.items
    pub own : (d : Interlock) → row < length b.rows.items → (get_or (interlocks_of b) row d).valve ≡ v
    pub same : barred v p q ps (drop row (interlocks_of b)) ≡ barred v p q ps (interlocks_of b)

  -- as a row found from row r on
  at_found : (r row : ℕ) → r ≤ length b.rows.items → row ≡ row_from (interlocks_of b) v r → barred v p q ps (drop r (interlocks_of b)) ≡ barred v p q ps (interlocks_of b) → AtRow row
  at_found r row low is so =
      let rows = rows_length b in
      let found : row ≤ length (interlocks_of b) = subst (λ x. x ≤ length (interlocks_of b)) (sym is) (row_from_most (interlocks_of b) v r (omega arith)) in
      record {
        within = omega arith;
        own = λ d h. ap (λ x. (get_or (interlocks_of b) x d).valve) is ∙ row_from_valve (interlocks_of b) v r d (subst (λ x. x < length (interlocks_of b)) is (omega arith));
        same = ap (λ x. barred v p q ps (drop x (interlocks_of b))) is ∙ (barred_from v p q ps (interlocks_of b) r ∙ so);
      }

  -- the first row of valve v, which is x
  pub at_first : (x : Valve) → v < length b.valves.items → x ≡ get_or b.valves.items v x → AtRow x.first
  at_first x h is =
      at_found 0 x.first (omega arith)
      (ap (λ y. y.first) is ∙ (sym (get_or-map _ b.valves.items v x 0 h) ∙ b.begins v h))
      refl

  module _ (row : ℕ) (y : Row) (at : AtRow row) (inside : row < length b.rows.items) (is : y ≡ get_or b.rows.items row y) where
    -- what the present row adds
    here : barred v p q ps (interlocks_of b) ≡ (applies_to p q ps y.lock || barred v p q ps (drop (suc row) (interlocks_of b)))
    here =
        let rows = rows_length b in
        let within : row < length (interlocks_of b) = omega arith in
        sym at.same ∙ (barred_row v p q ps (interlocks_of b) row y.lock within
        ∙ (ap (λ x. x || barred v p q ps (drop (suc row) (interlocks_of b))) (bars_own v p q ps (get_or (interlocks_of b) row y.lock) (at.own y.lock inside))
        ∙ ap (λ x. applies_to p q ps x || barred v p q ps (drop (suc row) (interlocks_of b))) (lock_is b row y inside is)))

    pub barred_here : applies_to p q ps y.lock ≡ true → true ≡ barred v p q ps (interlocks_of b)
    barred_here e = sym (here ∙ ap (λ x. x || barred v p q ps (drop (suc row) (interlocks_of b))) e)

    pub at_next : applies_to p q ps y.lock ≡ false → AtRow y.following
    at_next e =
        let own : y.lock.valve ≡ v = ap (λ x. x.valve) (sym (lock_is b row y inside is)) ∙ at.own y.lock inside in
        at_found (suc row) y.following inside
        (next_is b row y inside is ∙ ap (λ x. row_from (interlocks_of b) x (suc row)) own)
        (sym (here ∙ ap (λ x. x || barred v p q ps (drop (suc row) (interlocks_of b))) e))

  pub free_past : (row : ℕ) → AtRow row → length b.rows.items ≤ row → false ≡ barred v p q ps (interlocks_of b)
  free_past row at h =
      let rows = rows_length b in
      let past : length (interlocks_of b) ≤ row = omega arith in
      ap (barred v p q ps) (sym (drop_all row (interlocks_of b) past)) ∙ at.same
