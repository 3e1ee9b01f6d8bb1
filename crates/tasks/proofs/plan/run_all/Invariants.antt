use Rattle.std.proofs.Common.{◌≡◌, drop}
use Rattle.tasks.specs.Plans.{held, ran_from}
use Rattle.tasks.proofs.plan.run_all.Given as goal

-- what is left of the list gives the answer
abbrev pub invariant-loop-place : goal.invariant-loop-place
invariant-loop-place g l = let t = g.T.Task.meant l.task in ran_from t (held l.state) l.place (drop l.place l.list) ≡ ran_from t t.init 0 l.list
