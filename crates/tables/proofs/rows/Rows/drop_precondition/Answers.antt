use Rattle.std.proofs.Common.{◌∙◌, ap₂}
use Rattle.reductions.specs.Applying.{precondition_dropped}
use Rattle.tables.specs.Tabled.{task_in, tabled, at_prices}
use Rattle.tables.proofs.Dropping.{dropped}
use Rattle.tables.proofs.rows.Rows.drop_precondition.Goals as goal

pub returns-in-Some : goal.returns-in-Some
returns-in-Some c =
    dropped c.args.self.now c.from.result c.from-in-Some.result c.in-Some.row c.in-Some.is
    ∙ ap₂ (λ i v. at_prices (tabled c.args.self.now) (precondition_dropped (task_in c.args.self.now) v i)) c.from.ensures c.from-in-Some.ensures
