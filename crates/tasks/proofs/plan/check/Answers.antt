use Rattle.tasks.proofs.Checking.{decided}
use Rattle.tasks.proofs.plan.check.Goals as goal

pub returns : goal.returns
returns g c = record { result = c.judge.ensures; law = decided (g.T.Task.meant c.args.task.now) (g.met.T.Task.lawful c.args.task.now) c.args.plan.now _ c.judge.ensures }
