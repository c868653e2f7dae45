-- A list of two plants side by side is a list of each, and their lengths add up. Assumes nothing.
use Rattle.std.specs.Prelude.{◌≡◌, ℕ, ◌+◌, ◌-◌, List, [], ◌∷◌, length, refl}
use Rattle.std.proofs.Common.{ap, subst, ⊎_elim, arith}
use Rattle.plant.specs.Meaning.{Meaning, Leads}
use Rattle.plant.specs.Laws.{Lawful}
use Rattle.pair.specs.Meaning.{first_part, second_part, beside}
use Rattle.pair.specs.Moves.{FirstMoves, SecondMoves, beside_moves}

pub record Shared (a b : Meaning) (s : ℕ) (os : List ℕ) (t : ℕ) : Type 0 where
  pub firsts : List ℕ
  pub seconds : List ℕ
  pub first_leads : Leads a (first_part a.settings s) firsts (first_part a.settings t)
  pub second_leads : Leads b (second_part a.settings s) seconds (second_part a.settings t)
  pub lengths : length firsts + length seconds ≡ length os

shared_none : (a b : Meaning) (s t : ℕ) → s ≡ t → Shared a b s [] t
shared_none a b s t e = record {
  firsts = [];
  seconds = [];
  first_leads = ap (first_part a.settings) e;
  second_leads = ap (second_part a.settings) e;
  lengths = refl;
}

shared_first : (a b : Meaning) (s o u : ℕ) (os : List ℕ) (t : ℕ) → FirstMoves a b s o u → Shared a b u os t → Shared a b s (o ∷ os) t
shared_first a b s o u os t m rest =
    let From : ℕ → Type 0 = λ y. Leads b y rest.seconds (second_part a.settings t) in
    record {
      firsts = o ∷ rest.firsts;
      seconds = rest.seconds;
      first_leads = (first_part a.settings u, m.moves, rest.first_leads);
      second_leads = subst From m.stays rest.second_leads;
      lengths = let e = rest.lengths in omega arith;
    }

shared_second : (a b : Meaning) (s o u : ℕ) (os : List ℕ) (t : ℕ) → SecondMoves a b s o u → Shared a b u os t → Shared a b s (o ∷ os) t
shared_second a b s o u os t m rest =
    let From : ℕ → Type 0 = λ x. Leads a x rest.firsts (first_part a.settings t) in
    record {
      firsts = rest.firsts;
      seconds = (o - a.operations) ∷ rest.seconds;
      first_leads = subst From m.stays rest.first_leads;
      second_leads = (second_part a.settings u, m.moves, rest.second_leads);
      lengths = let e = rest.lengths in omega arith;
    }

pub shared : (a b : Meaning) → Lawful a → Lawful b → (os : List ℕ) (s t : ℕ) → Leads (beside a b) s os t → Shared a b s os t
shared a b la lb [] s t e = shared_none a b s t e
shared a b la lb (o ∷ os) s t (u, steps, leads) =
    let rest = shared a b la lb os u t leads in
    ⊎_elim
    (λ m. shared_first a b s o u os t m rest)
    (λ m. shared_second a b s o u os t m rest)
    (beside_moves a b s o u la lb steps)
