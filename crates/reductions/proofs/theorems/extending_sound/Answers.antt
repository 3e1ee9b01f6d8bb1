use Rattle.reductions.proofs.StepsDown.{steps_keep_lawful}
use Rattle.reductions.proofs.Connecting.{connected_decides}
use Rattle.reductions.proofs.Carrying.{extending_sound}
use Rattle.reductions.proofs.theorems.extending_sound.Goals as goal

pub returns : goal.returns
returns g c = extending_sound g.M.Measure.scale steps_keep_lawful connected_decides
