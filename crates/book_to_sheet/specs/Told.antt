-- What an answer of the code says as a steps body. Assumes nothing.
use Rattle.std.specs.Prelude.{◌≡◌, true, [], take, Some, None, Ok, Err, Option, Result}
use Rattle.plant.specs.declared.refusal.Refusal.{Refusal}
use Rattle.plant.specs.Refusals.{number}
use Rattle.sheet.specs.Steps.{Steps, steps, keeps_rule}
use Rattle.book_to_sheet.specs.declared.list.List.{List}

-- answer 0 with the count and the list, or the refusal's number with nothing behind it
abbrev pub answer_steps : Result List Refusal → Steps
answer_steps (Ok a) = steps 0 a.count (take a.length a.place)
answer_steps (Err e) = steps (number e) 0 []

-- the answer says this body, which keeps the rule of bodies
pub record Told (b : Steps) (a : Result List Refusal) : Type 0 where
  pub says : answer_steps a ≡ b
  pub kept : keeps_rule b ≡ true

-- an answer where there is a body to be told, and none where there is none
abbrev pub ToldIf : Option Steps → Option (Result List Refusal) → Type 0
ToldIf None None = Unit {0}
ToldIf None (Some a) = ⊥
ToldIf (Some b) None = ⊥
ToldIf (Some b) (Some a) = Told b a
