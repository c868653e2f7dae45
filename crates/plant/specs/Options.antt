-- Options that are none. Assumes nothing.
use Rattle.std.specs.Prelude.{◌≡◌, false, is_some, Some, None, Option, refl}
use Rattle.std.specs.Option.{option_or}
use Rattle.std.proofs.lemmas.Bool.{true≢false}

pub none_from_test : {T : Type 0} (o : Option T) → is_some o ≡ false → o ≡ None
none_from_test None e = refl
none_from_test (Some x) e = absurd (true≢false e)

-- where there is no first of the two, neither is there
pub neither : {T : Type 0} (o p : Option T) → option_or o p ≡ None → (o ≡ None) × (p ≡ None)
neither None p e = (refl, e)
neither (Some x) p e = cc
