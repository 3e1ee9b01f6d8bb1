use Rattle.reductions.proofs.StepsDown.{steps_keep_lawful, plan_kept}
use Rattle.reductions.proofs.Connecting.{connected_decides}
use Rattle.reductions.proofs.Standing.{standing_keeps}
use Rattle.reductions.proofs.theorems.standing_keeps.Goals as goal

pub returns : goal.returns
returns c = standing_keeps steps_keep_lawful plan_kept connected_decides
