use Rattle.std.proofs.Common.{rules, cond, ◌&&◌, eqb}
use borrow.Author.Tests.{tests}
use Rattle.detours.specs.Free.{unmentioned}
use Rattle.reductions.specs.Steps.{has_value}
use Rattle.tasks.proofs.Counted.{all_from_range}
use Rattle.acceptance.proofs.moves.is_move.Goals as goal

pub returns : goal.returns
returns g c =
    let t = g.T.Task.meant c.args.task.now in
    all_from_range (λ w. cond (eqb w c.args.variable) (has_value c.args.from (t.pre c.args.action w) && has_value c.args.to (t.eff c.args.action w)) (unmentioned t c.args.action w)) t.vars _ _ _ c.all.ensures.ran (search rules) (λ x b q k. search (rules, tests))
