use Rattle.std.proofs.Common.{◌≡◌, vec_items}
use Rattle.job.specs.Jobs.{action_numbers}
use Rattle.job.proofs.plan_file.read_plan.Given as goal

abbrev pub invariant-loop-action : goal.invariant-loop-action
invariant-loop-action l = vec_items l.plan ≡ action_numbers l.fn.bytes l.action-index
