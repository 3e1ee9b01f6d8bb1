use Rattle.std.proofs.Common.{◌≡◌, ℕ, true, not, ◌||◌, eqb, None, Some, Option, is_some, sym, refl, ap, ◌∙◌, rules}
use borrow.Author.Tests.{tests}
use Rattle.std.proofs.lemmas.Bool.{false≢true}
use Rattle.detours.specs.Free.{absent, unmentioned}
use Rattle.tasks.proofs.Counted.{all_from_range}
use Rattle.detours.proofs.edges.gathering.is_free.Goals.{then-action_live, else-action_live}
use Rattle.detours.proofs.edges.gathering.is_free.Goals as goal

present : (o : Option ℕ) → is_some o ≡ true → not (absent o) ≡ true
present None e = absurd (false≢true e)
present (Some x) e = refl

pub returns-then-is_some : goal.returns-then-is_some
returns-then-is_some g c =
    let t = g.T.Task.meant c.args.task.now in
    elim c.if-action_live.branch [
      | then-action_live w ↦
          let live : t.act_live c.args.action ≡ true = sym c.action_live.ensures ∙ w.if-action_live.true in
          let sets : not (absent (t.eff c.args.action c.args.variable)) ≡ true = present _ (sym (w.is_some.ensures ∙ ap is_some w.effect.ensures) ∙ sym w.value-is ∙ c.if-is_some.true) in
          rw (live, sets) (all_from_range (λ v. eqb v c.args.variable || unmentioned t c.args.action v) t.vars _ _ _ c.all.ensures.ran (search rules) (λ x b q k. search (rules, tests)))
      | else-action_live w ↦ absurd (false≢true (sym w.if-action_live.false ∙ sym w.value-is ∙ c.if-is_some.true))
    ]
