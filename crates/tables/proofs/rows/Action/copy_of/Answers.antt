use Rattle.std.proofs.Common.{rules, None, arith}
use borrow.Author.Tests.{tests}
use Rattle.tasks.proofs.Counted.{filled_at}
use Rattle.tasks.proofs.Lawful.{pre_past, eff_past}
use Rattle.tables.proofs.Copying.{dead_action}
use Rattle.tables.proofs.rows.Action.copy_of.Goals as goal

pub returns-then-not-action_live : goal.returns-then-not-action_live
returns-then-not-action_live g c = dead_action _ (g.met.T.Task.lawful c.args.task.now) (g.T.Priced.tariff c.args.task.now) c.args.action (search rules)

pub returns : goal.returns
returns g c =
    let t = g.T.Task.meant c.args.task.now in
    let law = g.met.T.Task.lawful c.args.task.now in
    record {
      live = search rules;
      price = c.price.ensures;
      preconditions = filled_at (t.pre c.args.action) None _ _ _ c.from_fn.ensures.items (λ x b q k. search (rules, tests)) (λ v l. pre_past t law c.args.action v (omega (arith, law.few_vars)));
      effects = filled_at (t.eff c.args.action) None _ _ _ c.from_fn-2.ensures.items (λ x b q k. search (rules, tests)) (λ v l. eff_past t law c.args.action v (omega (arith, law.few_vars)));
    }
