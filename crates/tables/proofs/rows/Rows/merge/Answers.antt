use Rattle.std.proofs.Common.{not, ◌||◌, eqb, ap, ◌∙◌}
use Rattle.tasks.specs.Task.{Priced}
use Rattle.reductions.specs.Applying.{every}
use Rattle.tables.specs.Tabled.{tabled, retired}
use Rattle.tables.proofs.Retiring.{both_retired}
use Rattle.tables.proofs.rows.Rows.merge.Goals as goal

pub returns : goal.returns
returns c =
    c.retire_action-2.ensures
    ∙ ap (λ (p : Priced). retired p (λ a. not (eqb a c.args.step.back)) every) c.retire_action.ensures
    ∙ both_retired (tabled c.rename.new.self) c.args.step.forward c.args.step.back
    ∙ ap (λ (p : Priced). retired p (λ a. not (eqb a c.args.step.forward || eqb a c.args.step.back)) every) c.rename.ensures
