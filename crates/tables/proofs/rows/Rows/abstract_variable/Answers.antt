use Rattle.std.proofs.Common.{false, not, eqb, get_or, refl, ap, sym, ◌∙◌}
use Rattle.detours.specs.Free.{is_free}
use Rattle.tasks.specs.Task.{Priced}
use Rattle.reductions.specs.Applying.{every}
use Rattle.tables.specs.Tabled.{task_in, tabled, retired}
use Rattle.tables.proofs.Retiring.{and_true, retired_by}
use Rattle.tables.proofs.rows.Rows.abstract_variable.Goals as goal

pub returns : goal.returns
returns c =
    let r = c.args.self.now in
    let v = c.args.variable in
    let free = c.args.free.now in
    c.retire_variable.ensures
    ∙ ap (λ (p : Priced). retired p every (λ w. not (eqb w v))) c.retire_actions.ensures
    ∙ retired_by (tabled r) (λ a. not (get_or free a false)) every every (λ w. not (eqb w v)) (λ a. not (is_free (task_in r) v a)) (λ w. not (eqb w v)) (λ a. sym (and_true (not (get_or free a false))) ∙ ap not (c.requires.free a)) (λ w. refl)
