use Rattle.std.proofs.Common.{sym, ◌∙◌, arith, rules}
use borrow.Author.Tests.{tests}
use Rattle.detours.specs.Marks.{labels, place_of, total_of}
use Rattle.detours.proofs.MarkedLabels.{labels_short}
use Rattle.detours.proofs.LeastLoop.{least_end, place_taken}
use Rattle.detours.proofs.SettleLoop.{found_inside}
use Rattle.detours.proofs.search.Search.least_open.Goals as goal

pub returns : goal.returns
returns g c =
    let m = g.M.Measure.scale in
    let ks = c.args.self.now.marks in
    let xs = c.args.self.now.totals.now in
    let best = c.loop-value.best in
    let due = place_taken _ (λ p i k. search (rules, tests)) best c.map.result c.map.ensures.cases ∙ sym (least_end m ks xs c.loop-value.value (place_of best) (total_of best) (omega arith)) ∙ c.loop-value.invariant in
    record { least = due; within = λ u e. omega (arith, found_inside m (labels ks xs) u (sym due ∙ e), labels_short ks xs) }
