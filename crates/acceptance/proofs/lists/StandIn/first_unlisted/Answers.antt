use Rattle.std.proofs.Common.{rules, not, ◌∙◌}
use Rattle.std.proofs.lemmas.Iterator.{YieldsList-from_slice}
use Rattle.std.proofs.lemmas.Iterator.Search.{position_from_yields_List}
use borrow.Author.Tests.{tests}
use Rattle.reductions.specs.Acceptance.{listable}
use Rattle.acceptance.proofs.StandIns.{unlisted_position}
use Rattle.acceptance.proofs.lists.StandIn.first_unlisted.Goals as goal

pub returns : goal.returns
returns g c =
    let t = g.T.Task.meant c.args.self.now.task.now in
    position_from_yields_List (λ other. not (listable t c.args.self.now.action other)) _ _ _ c.position.ensures.ran (YieldsList-from_slice c.args.self.now.list.now c.iter.ensures.rest) (λ x b q k. search (rules, tests))
    ∙ unlisted_position t c.args.self.now.action c.args.self.now.list.now
