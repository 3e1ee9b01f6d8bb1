use Rattle.std.proofs.Common.{sym, ◌∙◌}
use Rattle.tasks.specs.Plans.{held}
use Rattle.tasks.proofs.Checking.{ran_more, ran_here, ran_end}
use Rattle.tasks.proofs.plan.run_all.Goals as goal

pub returns-then-not-can_run : goal.returns-then-not-can_run
returns-then-not-can_run g c =
    sym (ran_here (g.T.Task.meant c.args.task.now) (held c.loop-place.state) c.loop-place.place c.args.list.now c.loop-place-test.true (sym c.can_run.ensures ∙ c.if-not-can_run.true)) ∙ c.loop-place.invariant

pub loop-place-preserved : goal.loop-place-preserved
loop-place-preserved g c =
    ran_more (g.T.Task.meant c.args.task.now) (held c.loop-place.state) c.loop-place.place c.args.list.now (held c.run.new.self) c.loop-place-test.true (sym c.can_run.ensures ∙ c.if-not-can_run.false) c.run.ensures ∙ c.loop-place.invariant

pub returns : goal.returns
returns g c =
    sym (ran_end (g.T.Task.meant c.args.task.now) (held c.loop-place.state) c.loop-place.place c.args.list.now c.loop-place-test.false) ∙ c.loop-place.invariant
