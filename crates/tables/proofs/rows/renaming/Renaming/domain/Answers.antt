use Rattle.std.proofs.Common.{rules, false, not, ◌&&◌, eqb, get_or, ap, arith}
use Rattle.std.proofs.lemmas.List.{get_or_past}
use borrow.Author.Tests.{tests}
use Rattle.tasks.proofs.Counted.{filled_at}
use Rattle.tables.proofs.rows.renaming.Renaming.domain.Goals as goal

pub returns-clause-values : goal.returns-clause-values
returns-clause-values c =
    filled_at (λ x. get_or c.args.old.values x false && not (eqb x c.args.self.from)) false _ _ _ c.from_fn.ensures.items (λ x b q k. search (rules, tests))
    (λ k l. ap (λ b. b && not (eqb k c.args.self.from)) (get_or_past c.args.old.values k false (omega arith)))
