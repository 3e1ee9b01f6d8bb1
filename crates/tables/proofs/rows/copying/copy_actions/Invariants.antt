use Rattle.tables.proofs.Copying.{ActionsCopied}
use Rattle.tables.proofs.rows.copying.copy_actions.Given as goal

abbrev pub invariant-loop-action : goal.invariant-loop-action
invariant-loop-action g l = ActionsCopied (g.T.Task.meant l.task) (g.T.Priced.tariff l.task) l.actions l.action
