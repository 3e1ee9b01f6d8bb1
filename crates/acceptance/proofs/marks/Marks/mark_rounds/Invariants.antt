use Rattle.std.proofs.Common.{◌≡◌, ◌-◌}
use Rattle.acceptance.specs.Marking.{mark_rounds}
use Rattle.acceptance.proofs.marks.Marks.mark_rounds.Given as goal

-- the rounds that are left make the marks that are due
abbrev pub invariant-loop-round : goal.invariant-loop-round
invariant-loop-round l = mark_rounds l.edges (l.rounds - l._round) l.self.marked ≡ mark_rounds l.edges l.rounds l.initial.self.marked
