use Rattle.std.proofs.Common.{◌≡◌, ℕ, List, drop, Option}
use Rattle.tasks.specs.Task.{priced}
use Rattle.tasks.specs.Totals.{total}
use Rattle.reductions.specs.Undoing.{refined, insertions}
use Rattle.undoing.specs.Writing.{Wrote}
use Rattle.undoing.proofs.refining.refine.Given as goal

-- whatever comes of what is left of the list comes of the whole, and with the totals of what is left they are all
abbrev pub invariant-loop-action : goal.invariant-loop-action
invariant-loop-action g l =
    let m = g.M.Measure.scale in
    let t = g.T.Task.meant l.task in
    let p = priced t (g.T.Priced.tariff l.task) in
    let v = (g.B.Bringing.way l.fn.by).variable in
    let by = (g.B.Bringing.way l.fn.by).connector p in record {
      same_way : g.B.Bringing.way l.by ≡ g.B.Bringing.way l.fn.by;
      same_reference : l.out.buffer.ghost_name ≡ l.initial.out.buffer.ghost_name;
      on : (after : List ℕ) (o : Option ℕ) → Wrote l.out.buffer.now l.out.written (refined by t v l.value (drop l.action-index l.list)) after o → Wrote l.initial.out.buffer.now l.initial.out.written (refined by t v (t.init v) l.list) after o;
      totals : m.join l.inserted (total m p (insertions by t v l.value (drop l.action-index l.list))) ≡ total m p (insertions by t v (t.init v) l.list);
    }
