use Rattle.std.proofs.Common.{arith}
use Rattle.tasks.specs.Plans.{held}
use Rattle.tasks.proofs.Lawful.{after_by}
use Rattle.tasks.proofs.state.State.run.Goals as goal

pub returns : goal.returns
returns g c =
    let inv = c.loop-v.invariant in
    after_by _ (g.met.T.Task.lawful c.args.task.now) (held c.args.self.now) (held c.loop-v.self) c.args.action
    (λ k h. inv.0 k (omega (arith, c.variables-v-end.ensures)))
    (λ k h. inv.1 k (omega (arith, c.variables-v-end.ensures)))
