use Rattle.reductions.proofs.Connecting.{connected_decides}
use Rattle.reductions.proofs.theorems.connected_decides.Goals as goal

pub returns : goal.returns
returns c = connected_decides
