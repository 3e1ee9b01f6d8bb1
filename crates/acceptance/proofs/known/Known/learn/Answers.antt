use Rattle.std.proofs.Common.{ℕ, None, Option, sym, ap, ◌∙◌, ap₂, ⊎_elim, arith, get_or-set_other, get_or-set_same, below_more}
use mathlib.Core.Path.{fun_ext}
use Rattle.std.proofs.lemmas.Bool.{cases_lt}
use Rattle.tasks.proofs.Lawful.{eff_past}
use Rattle.reductions.specs.Steps.{overridden}
use Rattle.acceptance.specs.Knowns.{knows}
use Rattle.acceptance.proofs.known.Known.learn.Goals as goal

pub returns : goal.returns
returns g c =
    let inv = c.loop-v.invariant in
    let law = g.met.T.Task.lawful c.args.task.now in
    fun_ext (λ w. ⊎_elim
    (λ l. inv.0 w (omega (arith, c.variables-v-end.ensures)))
    (λ l. inv.1 w (omega (arith, c.variables-v-end.ensures)) ∙ sym (ap (λ (o : Option ℕ). overridden o (knows c.args.self.now w)) (eff_past _ law c.args.action w l)))
    (cases_lt w (g.T.Task.meant c.args.task.now).vars))

pub loop-v-preserved : goal.loop-v-preserved
loop-v-preserved g c =
    let inv = c.loop-v.invariant in
    let here = c.after.ensures in
    let values = c.loop-v.self.values in
    let v = c.loop-v.v in
    rw c.from.ensures (
      below_more _ _
          (λ k h. get_or-set_other values v k c.after.result None (λ e. omega arith) ∙ inv.0 k h)
          (get_or-set_same values v c.after.result None (omega (arith, c.loop-v.self.long, (g.met.T.Task.lawful c.args.task.now).few_vars, c.variables-v-end.ensures)) ∙ here ∙ ap₂ overridden c.effect.ensures (inv.1 v (omega arith))),
      λ k h. get_or-set_other values v k c.after.result None (λ e. omega arith) ∙ inv.1 k (omega arith),
    )
