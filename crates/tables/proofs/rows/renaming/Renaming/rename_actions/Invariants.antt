use Rattle.std.proofs.Common.{None}
use Rattle.tables.specs.Renamed.{ActionRenamed}
use Rattle.tables.proofs.Sweeping.{Swept}
use Rattle.tables.proofs.rows.renaming.Renaming.rename_actions.Given as goal

abbrev pub invariant-loop-action : goal.invariant-loop-action
invariant-loop-action l = Swept (ActionRenamed l.self.variable l.self.from l.self.to) None l.fn.actions l.action-items l.action-index
