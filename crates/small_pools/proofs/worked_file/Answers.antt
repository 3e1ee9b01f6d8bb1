use Rattle.std.proofs.Common.{refl}
use Rattle.small_pools.specs.Pools.{SmallPools}
use Rattle.small_pools.proofs.worked_file.Goals as goal

small-pools : SmallPools
small-pools = record {
  opens = refl;
  counts = (refl, refl);
  cut_short = refl;
  packed_again = refl;
  cannot_run = refl;
  goal_missed = refl;
  filled = refl;
  filled_in_depth = refl;
  floor_stands = refl;
  round = refl;
  straight = refl;
}

pub returns : goal.returns
returns c = record { result = c.bytes.ensures; examples = small-pools }
