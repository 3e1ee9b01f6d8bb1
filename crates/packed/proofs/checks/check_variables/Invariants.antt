use Rattle.std.proofs.Common.{◌≡◌, None}
use Rattle.tasks.specs.Bounds.{first_some}
use Rattle.packed.specs.Decoding.{variable_refusal}
use Rattle.packed.proofs.checks.check_variables.Given as goal

abbrev pub invariant-loop-variable : goal.invariant-loop-variable
invariant-loop-variable l = first_some l.variable (variable_refusal l.bytes) ≡ None
