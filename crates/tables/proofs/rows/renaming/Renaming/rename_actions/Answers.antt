use Rattle.std.proofs.Common.{None, arith}
use Rattle.tables.specs.Renamed.{ActionRenamed}
use Rattle.tables.proofs.Renaming.{none_renamed}
use Rattle.tables.proofs.Sweeping.{one_swept, all_swept}
use Rattle.tables.proofs.rows.renaming.Renaming.rename_actions.Goals as goal

pub loop-action-preserved : goal.loop-action-preserved
loop-action-preserved c =
    one_swept (ActionRenamed c.args.self.variable c.args.self.from c.args.self.to) None c.args.actions.now c.loop-action.action-items c.loop-action.action-index c.loop-action.invariant c.rename_action.new.action (omega arith) c.rename_action.ensures

pub returns : goal.returns
returns c =
    let v = c.args.self.variable in
    all_swept (ActionRenamed v c.args.self.from c.args.self.to) None c.args.actions.now c.loop-action.action-items c.loop-action.action-index c.loop-action.invariant (none_renamed v c.args.self.from c.args.self.to) (omega arith)
