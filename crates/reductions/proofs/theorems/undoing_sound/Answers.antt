use Rattle.reductions.proofs.Connecting.{connected_decides}
use Rattle.reductions.proofs.StepUndone.{undoing_sound}
use Rattle.reductions.proofs.theorems.undoing_sound.Goals as goal

pub returns : goal.returns
returns g c = undoing_sound g.M.Measure.scale connected_decides
