use Rattle.std.proofs.Common.{ℕ, false, not, eqb, get_or, sym, ap, ◌∙◌, arith}
use Rattle.tasks.specs.Task.{Priced}
use Rattle.reductions.specs.Applying.{every}
use Rattle.tables.specs.Tabled.{tabled, retired}
use Rattle.tables.proofs.Retiring.{none_retired, one_retired, one_spared, all_retired}
use Rattle.tables.proofs.rows.Rows.retire_actions.Goals as goal
use Rattle.tables.proofs.rows.Rows.retire_actions.Goals.{then-chosen-from, else-chosen-from}

pub loop-action-init : goal.loop-action-init
loop-action-init c = none_retired (tabled c.args.self.now) c.args.chosen.now

pub loop-action-preserved : goal.loop-action-preserved
loop-action-preserved c =
    let p = tabled c.args.self.now in
    let chosen = c.args.chosen.now in
    let n = c.loop-action.action in
    let at = ap (λ (i : ℕ). get_or chosen i false) (sym c.from.ensures) in
    elim c.if-chosen-from.branch [
      | then-chosen-from w ↦ ap tabled w.self-is ∙ w.retire_action.ensures ∙ ap (λ (q : Priced). retired q (λ a. not (eqb a n)) every) c.loop-action.invariant ∙ one_retired p chosen n (at ∙ w.if-chosen-from.true)
      | else-chosen-from w ↦ ap tabled w.self-is ∙ c.loop-action.invariant ∙ one_spared p chosen n (at ∙ w.if-chosen-from.false)
    ]

pub returns : goal.returns
returns c = c.loop-action.invariant ∙ all_retired (tabled c.args.self.now) c.args.chosen.now c.loop-action.action (omega arith)
