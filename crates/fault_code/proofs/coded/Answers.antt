-- The code is computed as it is defined, and the byte has 16 bits.
use Rattle.std.proofs.Common.{ap, ◌∙◌, arith}
use Rattle.faults.specs.Told.{layer_code}
use Rattle.fault_code.proofs.FileBytes.{byte_fits}
use Rattle.fault_code.proofs.coded.Goals as goal

pub returns : goal.returns
returns c = record { code = omega (arith, c.code.ensures ∙ ap layer_code c.layer.ensures); fits = byte_fits c.args.fault }
