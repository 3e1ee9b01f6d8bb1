use Rattle.std.proofs.Common.{Some, not, ◌∙◌, rules}
use borrow.Author.Tests.{tests}
use Rattle.std.proofs.lemmas.Iterator.{YieldsList-from_slice}
use Rattle.std.proofs.lemmas.Iterator.Adapters.{YieldsList-from_once}
use Rattle.std.proofs.lemmas.Iterator.Consumers.{YieldsList-from_chain, YieldsList-from_copied}
use Rattle.std.proofs.lemmas.Iterator.Search.{position_from_yields_List}
use Rattle.floors.specs.Floors.{pool_of, open_cell}
use Rattle.floors.specs.Cells.{closed_first}
use Rattle.floors.proofs.cells.Cells.closed_place.Goals as goal

pub returns : goal.returns
returns c =
    let s = c.args.self.now.survey.now in
    let p = pool_of s in
    position_from_yields_List (λ c. not (open_cell p c)) _ _ c.position.result c.position.ensures.ran
    (YieldsList-from_chain (YieldsList-from_once (Some s.start) (search rules)) (YieldsList-from_copied (YieldsList-from_slice p.points (search rules))) (search rules) (search rules))
    (λ x b q k. search (rules, tests))
    ∙ closed_first p
