use Rattle.std.proofs.Common.{◌≡◌, ◌-◌, ◌≤◌, ◌++◌, length}
use Rattle.tasks.specs.Task.{priced}
use Rattle.detours.specs.Edges.{free_edges}
use Rattle.detours.proofs.edges.gathering.gather.Given as goal

-- no more are gathered than were tried, and with those of the rest they are all
abbrev pub invariant-loop-action : goal.invariant-loop-action
invariant-loop-action g l =
    let t = g.T.Task.meant l.task in
    let p = priced t (g.T.Priced.tariff l.task) in
    (length l.list.items ≤ l.action) × (l.list.items ++ free_edges p l.variable (t.acts - l.action) l.action ≡ free_edges p l.variable t.acts 0)
