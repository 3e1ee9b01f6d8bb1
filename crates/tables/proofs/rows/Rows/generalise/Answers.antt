use Rattle.std.proofs.Common.{not, eqb, ap, ◌∙◌}
use Rattle.tasks.specs.Task.{Priced}
use Rattle.reductions.specs.Applying.{every}
use Rattle.tables.specs.Tabled.{retired}
use Rattle.tables.proofs.rows.Rows.generalise.Goals as goal

pub returns : goal.returns
returns c = c.retire_action.ensures ∙ ap (λ (p : Priced). retired p (λ a. not (eqb a c.args.step.twin)) every) c.drop_precondition.ensures
