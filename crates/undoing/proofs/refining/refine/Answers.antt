use Rattle.std.proofs.Common.{ℕ, ◌+◌, List, get_or, drop, Some, Option, ap, ap₂, ◌∙◌, subst}
use Rattle.tasks.specs.Task.{priced}
use Rattle.tasks.specs.Plans.{over}
use Rattle.tasks.specs.Totals.{total}
use Rattle.reductions.specs.Undoing.{connect, insertions}
use Rattle.undoing.specs.Bringings.{Way}
use Rattle.undoing.specs.Writing.{StandsAt}
use Rattle.undoing.proofs.RefineLoop.{refine_more, refine_end, inserted_more}
use Rattle.undoing.proofs.refining.refine.Goals as goal

pub loop-action-preserved : goal.loop-action-preserved
loop-action-preserved g c =
    let m = g.M.Measure.scale in
    let t = g.T.Task.meant c.args.task.now in
    let p = priced t (g.T.Priced.tariff c.args.task.now) in
    let w = g.B.Bringing.way c.args.by.now in
    let by = w.connector p in
    let i = c.loop-action.action-index in
    let value = c.loop-action.value in
    let a = get_or c.args.list.now i 0 in
    let due = ap₂ (λ (k : Way) (o : Option ℕ). connect (k.connector p) value o) c.loop-action.invariant.same_way (c.precondition-wanted.ensures ∙ ap (t.pre a) c.variable-variable.ensures) in
    let mid = c.insert.new.out in
    let last = c.push.new.self in
    let wrote = subst (λ (xs : List ℕ). StandsAt c.loop-action.out.buffer.now c.loop-action.out.written xs mid.buffer.now mid.written) due c.in_ok-total.ensures.writes.1 in
    let costs = c.in_ok-total.ensures.inserted ∙ ap (total m p) due in
    let next = c.value_after-value.result in
    let later = c.value_after-value.ensures ∙ ap (λ (k : ℕ). over (t.eff a k) (over (t.pre a k) value)) c.variable-variable.ensures in record {
      same_way = c.in_ok-total.ensures.same_way ∙ c.loop-action.invariant.same_way;
      same_reference = c.in_ok-push.ensures.0 ∙ c.in_ok-total.ensures.writes.0 ∙ c.loop-action.invariant.same_reference;
      on = λ after o rest. c.loop-action.invariant.on after o (refine_more by t w.variable c.args.list.now i value c.loop-action-test.true c.loop-action.out.buffer.now c.loop-action.out.written mid.buffer.now mid.written last.buffer.now last.written wrote c.in_ok-push.ensures.1 next later after o rest);
      totals = ap (λ (x : g.row.M-Total.Denot). m.join x (total m p (insertions by t w.variable next (drop (i + 1) c.args.list.now)))) (c.join-inserted.ensures ∙ ap (m.join c.loop-action.inserted) costs)
          ∙ inserted_more by t w.variable c.args.list.now i value c.loop-action-test.true m g.met.M.Measure.lawful p c.loop-action.inserted _ c.loop-action.invariant.totals next later;
    }

pub returns-clause-writes : goal.returns-clause-writes
returns-clause-writes g c =
    let t = g.T.Task.meant c.args.task.now in
    let p = priced t (g.T.Priced.tariff c.args.task.now) in
    let w = g.B.Bringing.way c.args.by.now in
    let value = c.loop-action.value in
    let due = ap₂ (λ (k : Way) (o : Option ℕ). connect (k.connector p) value o) c.loop-action.invariant.same_way (c.goal.ensures ∙ ap t.goal c.variable-variable.ensures) in
    let end = c.insert-2.new.out in
    let wrote = subst (λ (xs : List ℕ). StandsAt c.loop-action.out.buffer.now c.loop-action.out.written xs end.buffer.now end.written) due c.in_ok-total-2.ensures.writes.1 in (
      c.in_ok-total-2.ensures.writes.0 ∙ c.loop-action.invariant.same_reference,
      c.loop-action.invariant.on end.buffer.now (Some end.written) (refine_end (w.connector p) t w.variable c.args.list.now c.loop-action.action-index value c.loop-action-test.false c.loop-action.out.buffer.now c.loop-action.out.written end.buffer.now (Some end.written) wrote),
    )
