use Rattle.std.proofs.Common.{rules}
use Rattle.acceptance.proofs.MarkingLoop.{mark_new, mark_old, mark_end}
use Rattle.acceptance.proofs.marks.Marks.mark_targets.Goals as goal

pub loop-edge-preserved : goal.loop-edge-preserved
loop-edge-preserved c = search (rules, mark_new, mark_old)

pub returns : goal.returns
returns c = search (rules, mark_end)
