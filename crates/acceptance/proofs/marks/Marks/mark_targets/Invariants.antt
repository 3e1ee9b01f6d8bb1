use Rattle.std.proofs.Common.{◌≡◌, false, drop}
use Rattle.acceptance.specs.Marking.{mark_edges}
use Rattle.acceptance.proofs.marks.Marks.mark_targets.Given as goal

-- what is left of the edges makes the marks that are due; none is new as long as none was found
abbrev pub invariant-loop-edge : goal.invariant-loop-edge
invariant-loop-edge l = (mark_edges (drop l.edge-index l.edges) l.self.marked ≡ mark_edges l.edges l.initial.self.marked) × (l.more ≡ false → l.self.marked ≡ l.initial.self.marked)
