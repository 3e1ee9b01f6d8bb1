use Rattle.std.proofs.lemmas.Result.{err_from_is_err_and}
use Rattle.packed.specs.Decoding.{variable_refusal}
use Rattle.packed.proofs.Unless.{stops}
use Rattle.packed.proofs.checks.check_variables.Goals as goal

pub returns-in_err-check_variable : goal.returns-in_err-check_variable
returns-in_err-check_variable c =
    stops (variable_refusal c.args.bytes.now) c.args.count c.loop-variable.variable c.loop-variable.invariant c.from_residual.result c.in_err-check_variable.field-0.0 c.loop-variable-test.true c.in_err-check_variable.ensures (err_from_is_err_and c.from_residual.result c.from_residual.ensures.1)
