use Rattle.reductions.proofs.StepsDown.{steps_keep_lawful, plan_kept}
use Rattle.reductions.proofs.Connecting.{connected_decides}
use Rattle.reductions.proofs.Preserving.{every_history_preserves}
use Rattle.reductions.proofs.theorems.every_history_preserves.Goals as goal

pub returns : goal.returns
returns g c = every_history_preserves g.M.Measure.scale steps_keep_lawful plan_kept connected_decides
