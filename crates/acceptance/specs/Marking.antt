-- Marking over gathered edges.
use Rattle.std.specs.Prelude.{ℕ, zero, suc, Bool, true, cond, List, [], ◌∷◌, slice_set}
use Rattle.detours.specs.declared.edges.Edge.{Edge}
use Rattle.reductions.specs.Reaching.{marked_source}

-- each edge that leads from a marked value marks its target, one after another
abbrev pub mark_edges : List Edge → List Bool → List Bool
mark_edges [] marks = marks
mark_edges (e ∷ rest) marks = mark_edges rest (cond (marked_source e.from marks) (slice_set marks e.to true) marks)

abbrev pub mark_rounds : List Edge → ℕ → List Bool → List Bool
mark_rounds edges zero marks = marks
mark_rounds edges (suc n) marks = mark_rounds edges n (mark_edges edges marks)
