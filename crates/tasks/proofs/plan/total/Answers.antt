use Rattle.std.proofs.Common.{rules}
use Rattle.std.proofs.lemmas.Iterator.{YieldsList-from_slice}
use Rattle.std.proofs.lemmas.Iterator.Consumers.{fold_from_yields_List}
use borrow.Author.Tests.{tests}
use Rattle.tasks.specs.Task.{priced}
use Rattle.tasks.proofs.CostAlgebras.{total_folded}
use Rattle.tasks.proofs.plan.total.Goals as goal

pub returns : goal.returns
returns g c =
    let m = g.M.Measure.scale in
    let p = priced (g.T.Task.meant c.args.task.now) (g.T.Priced.tariff c.args.task.now) in
    total_folded m g.met.M.Measure.lawful p c.args.plan.now _ _
    (fold_from_yields_List _ (λ sum a. m.join sum (m.weight (p.price a))) _ _ c.fold.ensures.ran (YieldsList-from_slice c.args.plan.now c.iter.ensures.rest) (λ x a y q k. search (rules, tests)))
    (search rules)
