use Rattle.reductions.proofs.StepsDown.{plan_kept}
use Rattle.reductions.proofs.Connecting.{connected_decides}
use Rattle.reductions.proofs.Standing.{steps_keep_solvable}
use Rattle.reductions.proofs.theorems.steps_keep_solvable.Goals as goal

pub returns : goal.returns
returns c = steps_keep_solvable plan_kept connected_decides
