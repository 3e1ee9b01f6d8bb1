use Rattle.std.proofs.Common.{rules, not, ◌∙◌}
use Rattle.std.proofs.lemmas.Iterator.{YieldsList-from_slice}
use Rattle.std.proofs.lemmas.Iterator.Search.{any_from_yields_List}
use borrow.Author.Tests.{tests}
use Rattle.detours.specs.Free.{absent}
use Rattle.acceptance.proofs.StandIns.{set_by_any}
use Rattle.acceptance.proofs.lists.StandIn.sets.Goals as goal

pub returns : goal.returns
returns g c =
    let t = g.T.Task.meant c.args.self.now.task.now in
    any_from_yields_List (λ a. not (absent (t.eff a c.args.variable))) _ _ _ c.any.ensures.ran (YieldsList-from_slice c.args.self.now.list.now c.iter.ensures.rest) (λ x b q k. search (rules, tests))
    ∙ set_by_any t c.args.variable c.args.self.now.list.now
