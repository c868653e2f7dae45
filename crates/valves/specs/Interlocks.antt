-- What an interlock bars. Assumes nothing.
use Rattle.std.specs.Prelude.{ℕ, suc, Bool, false, cond, ◌&&◌, ◌||◌, List, [], ◌∷◌, drop, ◌==◌, slice_index}
use Rattle.valves.specs.declared.interlock.Interlock.{Interlock}

-- whether an interlock applies to its valve going from position p to position q, with the valves at ps: its position
-- is at either end of the move, and its other valve stands where it says
abbrev pub applies_to : ℕ → ℕ → List ℕ → Interlock → Bool
applies_to p q ps l = (l.position == p || l.position == q) && slice_index ps l.other == l.stands

-- whether it bars valve v from that move
abbrev pub bars : ℕ → ℕ → ℕ → List ℕ → Interlock → Bool
bars v p q ps l = l.valve == v && applies_to p q ps l

-- whether any of the interlocks does
abbrev pub barred : ℕ → ℕ → ℕ → List ℕ → List Interlock → Bool
barred v p q ps [] = false
barred v p q ps (l ∷ ls) = bars v p q ps l || barred v p q ps ls

-- the first row of an interlock of valve v, where the rows are counted from r
abbrev pub row_of : ℕ → List Interlock → ℕ → ℕ
row_of v [] r = r
row_of v (l ∷ ls) r = cond (l.valve == v) r (row_of v ls (suc r))

-- the first row from r on of an interlock of valve v; the number of rows where there is none
abbrev pub row_from : List Interlock → ℕ → ℕ → ℕ
row_from ls v r = row_of v (drop r ls) r
