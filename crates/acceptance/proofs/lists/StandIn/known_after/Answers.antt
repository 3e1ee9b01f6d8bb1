use Rattle.std.proofs.Common.{sym, ◌∙◌}
use Rattle.acceptance.specs.Knowns.{knows}
use Rattle.acceptance.proofs.StandIns.{known_more, known_stops, known_end}
use Rattle.acceptance.proofs.lists.StandIn.known_after.Goals as goal

pub returns-then-not-allows : goal.returns-then-not-allows
returns-then-not-allows g c = known_stops (g.T.Task.meant c.args.self.now.task.now) c.args.self.now.list.now c.loop-other.other-index (knows c.loop-other.known) c.loop-other-test.true (sym c.allows.ensures ∙ c.if-not-allows.true) ∙ c.loop-other.invariant

pub loop-other-preserved : goal.loop-other-preserved
loop-other-preserved g c = known_more (g.T.Task.meant c.args.self.now.task.now) c.args.self.now.list.now c.loop-other.other-index (knows c.loop-other.known) c.loop-other-test.true (sym c.allows.ensures ∙ c.if-not-allows.false) _ c.learn.ensures ∙ c.loop-other.invariant

pub returns : goal.returns
returns g c = known_end (g.T.Task.meant c.args.self.now.task.now) c.args.self.now.list.now c.loop-other.other-index (knows c.loop-other.known) c.loop-other-test.false ∙ c.loop-other.invariant
