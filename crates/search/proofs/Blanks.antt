-- Records that a closure gives one after another, all of them blank. Assumes nothing.
use Rattle.std.proofs.Common.{◌≡◌, List, [], ◌∷◌, length, replicate, refl, ap, ◌∙◌, subst}
use Rattle.std.specs.List.{FoldsTo}

pub all_blank : {F X : Type 0} (step : F → X → F → Type 0) (f : F) (b : X) → ((x : X) (g : F) → step f x g → (g ≡ f) × (x ≡ b)) → (xs : List X) (last : F) → FoldsTo step f xs last → xs ≡ replicate (length xs) b
all_blank step f b gives [] last ran = refl
all_blank step f b gives (x ∷ xs) last ran =
    let given = gives x ran.0 ran.1 in
    ap (λ y. y ∷ xs) given.1 ∙ ap (λ ys. b ∷ ys) (all_blank step f b gives xs last (subst (λ g. FoldsTo step g xs last) given.0 ran.2))
