use Rattle.std.proofs.Common.{rules}
use borrow.Author.Tests.{tests}
use Rattle.reductions.specs.Steps.{needs_known}
use Rattle.acceptance.specs.Knowns.{knows}
use Rattle.tasks.proofs.Counted.{all_from_range}
use Rattle.acceptance.proofs.known.Known.allows.Goals as goal

pub returns : goal.returns
returns g c =
    let t = g.T.Task.meant c.args.task.now in
    all_from_range (λ w. needs_known (t.pre c.args.action w) (knows c.args.self.now w)) t.vars _ _ _ c.all.ensures.ran (search rules) (λ x b q k. search (rules, tests))
