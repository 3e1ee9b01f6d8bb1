use Rattle.std.proofs.Common.{◌≡◌, drop}
use Rattle.detours.specs.Known.{known}
use Rattle.detours.specs.EdgeSearch.{relax_edges}
use Rattle.detours.proofs.search.Search.relax_all.Given as goal

-- what is left of the edges makes the labels that are due
abbrev pub invariant-loop-edge : goal.invariant-loop-edge
invariant-loop-edge g l =
    let m = g.M.Measure.scale in
    relax_edges m l.value l.total (drop l.edge-index l.edges) (known l.self) ≡ relax_edges m l.value l.total l.edges (known l.initial.self)
