use Rattle.std.proofs.Common.{rules}
use borrow.Author.Tests.{tests}
use Rattle.reductions.specs.Steps.{is_set_by, stands_in}
use Rattle.acceptance.specs.Knowns.{knows}
use Rattle.tasks.proofs.Counted.{all_from_range}
use Rattle.acceptance.proofs.lists.StandIn.all_end_alike.Goals as goal

pub returns : goal.returns
returns g c =
    let t = g.T.Task.meant c.args.self.now.task.now in
    all_from_range (λ w. stands_in (t.eff c.args.self.now.action w) (t.pre c.args.self.now.action w) (is_set_by t c.args.self.now.list.now w) (knows c.args.known.now w)) t.vars _ _ _ c.all.ensures.ran (search rules) (λ x b q k. search (rules, tests))
