use Rattle.std.proofs.Common.{arith}
use Rattle.tables.proofs.Copying.{none_copied, one_copied, all_copied}
use Rattle.tables.proofs.rows.copying.copy_actions.Goals as goal

pub loop-action-init : goal.loop-action-init
loop-action-init g c = none_copied (g.T.Task.meant c.args.task.now) (g.T.Priced.tariff c.args.task.now)

pub loop-action-preserved : goal.loop-action-preserved
loop-action-preserved g c =
    let few = (g.met.T.Task.lawful c.args.task.now).few_acts in
    one_copied _ (g.T.Priced.tariff c.args.task.now) c.loop-action.actions c.from.result c.loop-action.action c.copy_of.result c.from.ensures (omega (arith, few, c.actions-action-end.ensures)) c.loop-action.invariant c.copy_of.ensures

pub returns : goal.returns
returns g c = all_copied _ (g.met.T.Task.lawful c.args.task.now) (g.T.Priced.tariff c.args.task.now) c.loop-action.actions c.loop-action.action (omega (arith, c.actions-action-end.ensures)) c.loop-action.invariant
