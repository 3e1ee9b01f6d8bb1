use Rattle.std.proofs.Common.{◌≡◌, ℕ, List, drop, Option}
use Rattle.reductions.specs.Undoing.{specialised}
use Rattle.undoing.specs.Writing.{Wrote}
use Rattle.undoing.proofs.specialising.specialise.Given as goal

-- whatever comes of what is left of the list comes of the whole
abbrev pub invariant-loop-other : goal.invariant-loop-other
invariant-loop-other g l =
    let t = g.T.Task.meant l.task in
    let s = l.step in record {
      same_reference : l.out.buffer.ghost_name ≡ l.initial.out.buffer.ghost_name;
      on : (after : List ℕ) (o : Option ℕ) → Wrote l.out.buffer.now l.out.written (specialised t s.variable s.action s.twin l.value (drop l.other-index l.list)) after o → Wrote l.initial.out.buffer.now l.initial.out.written (specialised t s.variable s.action s.twin (t.init s.variable) l.list) after o;
    }
