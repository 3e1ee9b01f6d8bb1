use Rattle.std.proofs.Common.{rules}
use borrow.Author.Tests.{tests}
use Rattle.tasks.proofs.Counted.{counted_from_range}
use Rattle.acceptance.proofs.counting.live_values.Goals as goal

pub returns : goal.returns
returns g c =
    let t = g.T.Task.meant c.args.task.now in
    counted_from_range (t.val_live c.args.variable) (t.size c.args.variable) _ c.count.ensures.ran (search rules) c.filter.ensures.closure (λ x b q k. search (rules, tests))
