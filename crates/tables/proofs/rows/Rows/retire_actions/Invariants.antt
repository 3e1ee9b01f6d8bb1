use Rattle.std.proofs.Common.{◌≡◌}
use Rattle.reductions.specs.Applying.{every}
use Rattle.tables.specs.Tabled.{tabled, retired}
use Rattle.tables.proofs.Retiring.{spared}
use Rattle.tables.proofs.rows.Rows.retire_actions.Given as goal

abbrev pub invariant-loop-action : goal.invariant-loop-action
invariant-loop-action l = tabled l.self ≡ retired (tabled l.initial.self) (spared l.chosen l.action) every
