use Rattle.std.proofs.Common.{refl, rules}
use Rattle.detours.proofs.MarkedLabels.{labels_begun}
use Rattle.detours.proofs.search.Search.begin.Goals as goal

pub returns : goal.returns
returns g c = labels_begun g.M.Measure.scale _ c.args.totals.now c.args.from c.from.result c.from-2.result c.default.result c.nothing.result refl c.requires.0 (search rules) (search rules) (search rules) (search rules)
