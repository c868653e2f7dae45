-- What no fault of a body says of its checks. Assumes nothing.
use Rattle.std.proofs.Common.{◌≡◌, Bool, true, false, cond, not, Some, None, Option, refl}
use Rattle.std.specs.Option.{option_map}

-- once the length is right, the plant has no fault
pub passed : {F G : Type 0} (b : Bool) (f : G) (carry : F → G) (o : Option F) → None ≡ cond (not b) (Some f) (option_map carry o) → o ≡ None
passed false f carry o e = cc
passed true f carry None e = refl
passed true f carry (Some x) e = cc
