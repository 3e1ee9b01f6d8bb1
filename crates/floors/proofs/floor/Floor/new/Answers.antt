use Rattle.floors.specs.Floors.{pool_of}
use Rattle.floors.specs.Accepting.{not_refused, accepted_by}
use Rattle.floors.specs.Upholding.{floor_law}
use Rattle.floors.proofs.floor.Floor.new.Goals as goal

pub returns-clause-law : goal.returns-clause-law
returns-clause-law c = let p = pool_of c.args.survey in floor_law p (accepted_by p (not_refused p c.in_ok-check.ensures))
