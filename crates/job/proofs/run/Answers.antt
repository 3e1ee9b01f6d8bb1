use Rattle.std.proofs.Common.{vec_items, arith}
use Rattle.job.proofs.Deciding.{decided}
use Rattle.job.proofs.run.Goals as goal

pub returns-clause-law : goal.returns-clause-law
returns-clause-law c = decided (vec_items c.args.task) c.args.plan.now (λ k. omega (arith, c.type_inv.plan k)) _ c.open.ensures.result c.open.ensures.law
