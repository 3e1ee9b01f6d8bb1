use Rattle.std.proofs.Common.{◌≡◌, ℕ, List, drop, Option}
use Rattle.undoing.specs.Writing.{Wrote}
use Rattle.undoing.proofs.writing.Writer.push_all.Given as goal

-- whatever comes of what is left of the list comes of the whole
abbrev pub invariant-loop-action : goal.invariant-loop-action
invariant-loop-action l = record {
  same_reference : l.self.buffer.ghost_name ≡ l.initial.self.buffer.ghost_name;
  on : (after : List ℕ) (o : Option ℕ) → Wrote l.self.buffer.now l.self.written (drop l.action-index l.list) after o → Wrote l.initial.self.buffer.now l.initial.self.written l.list after o;
}
