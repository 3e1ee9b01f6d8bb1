use Rattle.std.proofs.Common.{rules, false, not, ◌||◌, get_or}
use borrow.Author.Tests.{tests}
use Rattle.tasks.proofs.Counted.{all_from_range}
use Rattle.acceptance.proofs.marks.Marks.are_all.Goals as goal

pub returns : goal.returns
returns g c =
    let t = g.T.Task.meant c.args.task.now in
    all_from_range (λ value. not (t.val_live c.args.variable value) || get_or c.args.self.now.marked value false) (t.size c.args.variable) _ _ _ c.all.ensures.ran (search rules) (λ x b q k. search (rules, tests))
