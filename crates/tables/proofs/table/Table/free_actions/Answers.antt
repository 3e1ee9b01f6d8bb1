use Rattle.std.proofs.Common.{rules, None, false, arith}
use Rattle.std.proofs.lemmas.List.{get_or_past}
use borrow.Author.Tests.{tests}
use Rattle.detours.specs.Free.{is_free}
use Rattle.tasks.proofs.Counted.{filled_at}
use Rattle.tables.specs.Tabled.{task_in}
use Rattle.tables.proofs.Retiring.{absent_not_free}
use Rattle.tables.proofs.table.Table.free_actions.Goals as goal

pub returns : goal.returns
returns c =
    let r = c.args.self.now.rows in
    filled_at (is_free (task_in r) c.args.variable) false _ _ _ c.from_fn.ensures.items (λ x b q k. search (rules, tests))
    (λ a l. absent_not_free r c.args.variable a (get_or_past r.actions a None (omega arith)))
