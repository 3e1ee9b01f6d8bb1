use Rattle.std.proofs.Common.{ap, ◌∙◌, replicate, rules}
use borrow.Author.Tests.{tests}
use Rattle.detours.proofs.Filling.{filled_with}
use Rattle.detours.proofs.clear.Goals as goal

pub returns : goal.returns
returns g c =
    let v = g.M.Measure.scale.nothing in
    filled_with _ v (λ p x q k. search (rules, tests)) _ c.fill_with.new.self _ c.fill_with.ensures.ran.1 ∙ ap (λ n. replicate n v) c.fill_with.ensures.len
