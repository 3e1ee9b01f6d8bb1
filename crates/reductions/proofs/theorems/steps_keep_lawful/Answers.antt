use Rattle.reductions.proofs.StepsDown.{steps_keep_lawful}
use Rattle.reductions.proofs.theorems.steps_keep_lawful.Goals as goal

pub returns : goal.returns
returns c = steps_keep_lawful
