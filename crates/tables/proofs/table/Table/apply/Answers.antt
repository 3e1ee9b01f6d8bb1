use Rattle.std.proofs.Common.{◌≡◌, true, sym, ap, subst, ◌∙◌}
use mathlib.Core.Logic.{∥∥₁_elim}
use Rattle.tasks.specs.Task.{Priced, Lawful}
use Rattle.reductions.specs.Acceptance.{accepted}
use Rattle.reductions.specs.Applying.{applied}
use Rattle.reductions.specs.Named.{step_of}
use Rattle.reductions.specs.declared.step.Step.{Step}
use Rattle.reductions.proofs.StepsDown.{steps_keep_lawful}
use Rattle.tables.specs.declared.rows.Rows.{Rows}
use Rattle.tables.specs.declared.table.Table.{Table}
use Rattle.tables.specs.Tabled.{task_in, tabled}
use Rattle.tables.specs.Propositions.{lawful_prop}
use Rattle.tables.proofs.table.Table.apply.Goals as goal

-- the rows after an accepted step, whose kind is known, are lawful
stays_lawful : (t : Table) (step kind : Step) (after : Rows) → step ≡ kind → accepted (tabled t.rows) (step_of step) ≡ true → tabled after ≡ applied (tabled t.rows) (step_of kind) → ∥ Lawful (task_in after) ∥₁
stays_lawful t step kind after is fits same =
    let p = tabled t.rows in
    let law = ∥∥₁_elim t.lawful (lawful_prop (task_in t.rows)) (λ h. h) in
    let turned = same ∙ ap (λ (s : Step). applied p (step_of s)) (sym is) in
    ∣ subst (λ (q : Priced). Lawful q.task) (sym turned) (steps_keep_lawful p (step_of step) law fits) ∣₁

pub invariant_of-self : goal.invariant_of-self
invariant_of-self c = record { lawful = stays_lawful c.args.self.now c.args.step.now _ c.merge.new.self c.in-Merge.is c.requires c.merge.ensures }

pub invariant_of-self-in-Generalise : goal.invariant_of-self-in-Generalise
invariant_of-self-in-Generalise c = record { lawful = stays_lawful c.args.self.now c.args.step.now _ c.generalise.new.self c.in-Generalise.is c.requires c.generalise.ensures }

pub invariant_of-self-in-Variable : goal.invariant_of-self-in-Variable
invariant_of-self-in-Variable c = record { lawful = stays_lawful c.args.self.now c.args.step.now _ c.retire_variable.new.self c.in-Variable.is c.requires c.retire_variable.ensures }

pub invariant_of-self-in-Action : goal.invariant_of-self-in-Action
invariant_of-self-in-Action c = record { lawful = stays_lawful c.args.self.now c.args.step.now _ c.retire_action.new.self c.in-Action.is c.requires c.retire_action.ensures }

pub invariant_of-self-in-Abstract : goal.invariant_of-self-in-Abstract
invariant_of-self-in-Abstract c = record { lawful = stays_lawful c.args.self.now c.args.step.now _ c.abstract_variable.new.self c.in-Abstract.is c.requires c.abstract_variable.ensures }
