use Rattle.std.proofs.Common.{rules}
use borrow.Author.Tests.{tests}
use Rattle.tasks.proofs.Counted.{each_from_fn}
use Rattle.tables.specs.Copied.{VariableCopied}
use Rattle.tables.specs.Tabled.{absent}
use Rattle.tables.proofs.Copying.{copied}
use Rattle.tables.proofs.rows.Rows.copy_of.Goals as goal

pub returns : goal.returns
returns g c =
    let t = g.T.Task.meant c.args.task.now in
    copied t (g.met.T.Task.lawful c.args.task.now) (g.T.Priced.tariff c.args.task.now) _ c.variables.ensures c.actions.ensures c.from_fn.ensures.items.long
    (λ v l. each_from_fn (VariableCopied t) _ _ _ c.from_fn.ensures.items (λ x b q k. search (rules, tests)) v absent l)
    c.copy_actions.ensures
