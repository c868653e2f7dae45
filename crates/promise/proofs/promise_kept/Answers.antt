-- The promise is proved in `Promise`.
use Rattle.promise.proofs.Promise.{promise_kept}
use Rattle.promise.proofs.promise_kept.Goals as goal

pub returns : goal.returns
returns c = promise_kept
