use Rattle.std.proofs.Common.{◌≡◌, ℕ, ◌<◌, ◌≤◌}
use Rattle.reductions.specs.Steps.{overridden}
use Rattle.acceptance.specs.Knowns.{knows}
use Rattle.acceptance.proofs.known.Known.learn.Given as goal

abbrev pub invariant-loop-v : goal.invariant-loop-v
invariant-loop-v g l = ((k : ℕ) → k < l.v → knows l.self k ≡ overridden ((g.T.Task.meant l.task).eff l.action k) (knows l.initial.self k)) × ((k : ℕ) → l.v ≤ k → knows l.self k ≡ knows l.initial.self k)
