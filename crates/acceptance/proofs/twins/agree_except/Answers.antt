use Rattle.std.proofs.Common.{rules, ◌||◌, ◌&&◌, eqb}
use borrow.Author.Tests.{tests}
use Rattle.reductions.specs.Steps.{same_value}
use Rattle.tasks.proofs.Counted.{all_from_range}
use Rattle.acceptance.proofs.twins.agree_except.Goals as goal

pub returns : goal.returns
returns g c =
    let t = g.T.Task.meant c.args.task.now in
    all_from_range (λ w. eqb w c.args.variable || (same_value (t.pre c.args.action w) (t.pre c.args.twin w) && same_value (t.eff c.args.action w) (t.eff c.args.twin w))) t.vars _ _ _ c.all.ensures.ran (search rules) (λ x b q k. search (rules, tests))
