use Rattle.std.proofs.Common.{rules}
use borrow.Author.Tests.{tests}
use Rattle.tasks.specs.Plans.{held, agrees}
use Rattle.tasks.proofs.Counted.{failing_from_range}
use Rattle.tasks.proofs.state.State.missed_goal.Goals as goal

pub returns : goal.returns
returns g c =
    let t = g.T.Task.meant c.args.task.now in
    failing_from_range (λ v. agrees (t.goal v) (held c.args.self.now v)) t.vars _ _ _ c.find.ensures.ran (search rules) (λ x b q k. search (rules, tests))
