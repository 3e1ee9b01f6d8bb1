use Rattle.std.proofs.Common.{ℕ, not, eqb, ap, ◌∙◌}
use Rattle.reductions.specs.Applying.{every}
use Rattle.tables.specs.Tabled.{tabled, retired}
use Rattle.tables.proofs.Retiring.{variable_retired}
use Rattle.tables.proofs.rows.Rows.retire_variable.Goals as goal

pub returns : goal.returns
returns c = variable_retired c.args.self.now c.from.result ∙ ap (λ (i : ℕ). retired (tabled c.args.self.now) every (λ w. not (eqb w i))) c.from.ensures
