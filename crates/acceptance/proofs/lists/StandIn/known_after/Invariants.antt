use Rattle.std.proofs.Common.{◌≡◌, drop}
use Rattle.reductions.specs.Steps.{known_after}
use Rattle.acceptance.specs.Knowns.{knows}
use Rattle.acceptance.proofs.lists.StandIn.known_after.Given as goal

-- what is left of the list gives the answer
abbrev pub invariant-loop-other : goal.invariant-loop-other
invariant-loop-other g l = let t = g.T.Task.meant l.self.task.now in known_after t (knows l.known) (drop l.other-index l.self.list.now) ≡ known_after t (t.pre l.self.action) l.self.list.now
