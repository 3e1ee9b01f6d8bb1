use Rattle.std.proofs.Common.{◌≡◌, ◌-◌, [], length, reverse}
use Rattle.detours.specs.Detours.{most_values}
use Rattle.detours.specs.Marks.{trace_marks}
use Rattle.detours.proofs.search.Search.trace_back.Given as goal

-- what is left to trace back leads to the actions that are written, back to front
abbrev pub invariant-loop-value : goal.invariant-loop-value
invariant-loop-value g l = trace_marks l.self.marks l.from (most_values - length l.actions.items) l.value (reverse l.actions.items) ≡ trace_marks l.self.marks l.from most_values l.to []

abbrev pub decreases-loop-value : goal.decreases-loop-value
decreases-loop-value g l = 64 - length l.actions.items
