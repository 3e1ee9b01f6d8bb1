use Rattle.std.proofs.Common.{◌≡◌, ℕ, ◌<◌, ◌≤◌}
use Rattle.tasks.specs.Plans.{after, held}
use Rattle.tasks.proofs.state.State.run.Given as goal

abbrev pub invariant-loop-v : goal.invariant-loop-v
invariant-loop-v g l = ((k : ℕ) → k < l.v → held l.self k ≡ after (g.T.Task.meant l.task) (held l.initial.self) l.action k) × ((k : ℕ) → l.v ≤ k → held l.self k ≡ held l.initial.self k)
