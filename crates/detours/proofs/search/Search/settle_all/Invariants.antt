use Rattle.std.proofs.Common.{◌≡◌}
use Rattle.detours.specs.Detours.{most_values}
use Rattle.detours.specs.Known.{known}
use Rattle.detours.specs.EdgeSearch.{settle_edges}
use Rattle.detours.proofs.SettleLoop.{unsettled}
use Rattle.detours.proofs.search.Search.settle_all.Given as goal

-- settling on from here makes the labels that are due
abbrev pub invariant-loop-value : goal.invariant-loop-value
invariant-loop-value g l =
    let m = g.M.Measure.scale in
    settle_edges m l.edges most_values (known l.self) ≡ settle_edges m l.edges most_values (known l.initial.self)

abbrev pub decreases-loop-value : goal.decreases-loop-value
decreases-loop-value g l = unsettled (known l.self)
