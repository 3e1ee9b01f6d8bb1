-- An accepted step keeps a lawful task lawful and a solvable one solvable.
use Rattle.std.proofs.Common.{◌≡◌, ℕ, true, not, eqb, [], sym, ◌∙◌}
use Rattle.std.proofs.lemmas.Bool.{true≢false, not-true, not-false, eqb-false}
use Rattle.tasks.specs.Task.{Task, Priced, Lawful}
use Rattle.tasks.specs.Plans.{Solvable}
use Rattle.tasks.proofs.Lawful.{over_none}
use Rattle.detours.specs.Free.{is_free}
use Rattle.detours.proofs.FreeActions.{free_at}
use Rattle.reductions.specs.Steps.{Step, merge, generalise, variable, action, abstract}
use Rattle.reductions.specs.Acceptance.{accepted}
use Rattle.reductions.specs.Applying.{every, retains, task_after, applied}
use Rattle.reductions.specs.StepLaws.{StepsKeepLawful}
use Rattle.reductions.proofs.Retiring.{retiring_lawful, retiring_solvable}
use Rattle.reductions.proofs.MergeDown.{merge_at, merge_lawful, merge_solvable}
use Rattle.reductions.proofs.GeneraliseDown.{generalise_at, generalise_lawful, generalise_solvable}
use Rattle.reductions.proofs.ActionDown.{action_at, action_solvable}

pub steps_keep_lawful : StepsKeepLawful
steps_keep_lawful p (merge v x y a b) law h = merge_lawful p.task v x y a b law (merge_at p v x y a b law h)
steps_keep_lawful p (generalise v a b) law h = generalise_lawful p.task v a b law
steps_keep_lawful p (variable v) law h = retiring_lawful p.task every (λ w. not (eqb w v)) law
steps_keep_lawful p (action a list) law h = retiring_lawful p.task (retains p.task (action a list)) every law
steps_keep_lawful p (abstract v) law h = retiring_lawful p.task (retains p.task (abstract v)) (λ w. not (eqb w v)) law

-- no action is retired with a variable of one value
variable_solvable : (t : Task) (v : ℕ) → Lawful t → Solvable t → Solvable (task_after t (variable v))
variable_solvable t v = retiring_solvable t every (λ w. not (eqb w v)) (λ c. []) (λ s s' c retired agree runs. absurd (true≢false retired))

-- the free actions that are retired with v set nothing else
abstract_solvable : (t : Task) (v : ℕ) → Lawful t → Solvable t → Solvable (task_after t (abstract v))
abstract_solvable t v law =
    retiring_solvable t (retains t (abstract v)) (λ w. not (eqb w v)) (λ c. [])
    (λ s s' c retired agree runs w here.
    let alone = (free_at t law v c (not-false (is_free t v c) retired)).alone w (eqb-false w v (not-true (eqb w v) here)) in
    agree w here ∙ sym (over_none (t.eff c w) (s w) alone.1))
    law

pub plan_kept : (p : Priced) (s : Step) → Lawful p.task → accepted p s ≡ true → Solvable p.task → Solvable (applied p s).task
plan_kept p (merge v x y a b) law h = merge_solvable p.task v x y a b law (merge_at p v x y a b law h)
plan_kept p (generalise v a b) law h = generalise_solvable p v a b law (generalise_at p v a b law h)
plan_kept p (variable v) law h = variable_solvable p.task v law
plan_kept p (action a list) law h = action_solvable p.task law a list (action_at p a list h)
plan_kept p (abstract v) law h = abstract_solvable p.task v law
