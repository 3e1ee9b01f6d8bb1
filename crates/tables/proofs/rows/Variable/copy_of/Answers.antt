use Rattle.std.proofs.Common.{rules, false}
use borrow.Author.Tests.{tests}
use Rattle.tasks.proofs.Counted.{filled_at}
use Rattle.tables.proofs.Copying.{dead_variable, value_past}
use Rattle.tables.proofs.rows.Variable.copy_of.Goals as goal

pub returns-then-not-variable_live : goal.returns-then-not-variable_live
returns-then-not-variable_live g c = dead_variable _ (g.met.T.Task.lawful c.args.task.now) c.args.variable _ (search rules) c.size-size.ensures

pub returns : goal.returns
returns g c =
    let t = g.T.Task.meant c.args.task.now in
    record {
      size = c.size-size.ensures;
      live = search rules;
      values = filled_at (t.val_live c.args.variable) false _ _ _ c.from_fn.ensures.items (λ x b q k. search (rules, tests)) (value_past t (g.met.T.Task.lawful c.args.task.now) c.args.variable);
      initial = c.initial.ensures;
      goal = c.goal.ensures;
    }
