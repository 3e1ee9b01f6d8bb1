use Rattle.std.proofs.Common.{None, rules, arith}
use borrow.Author.Tests.{tests}
use Rattle.tasks.proofs.Counted.{filled_reads}
use Rattle.tasks.proofs.Lawful.{pre_past}
use Rattle.acceptance.proofs.known.Known.required_by.Goals as goal

pub returns : goal.returns
returns g c =
    let t = g.T.Task.meant c.args.task.now in
    let law = g.met.T.Task.lawful c.args.task.now in
    filled_reads (t.pre c.args.action) None _ _ _ c.from_fn.ensures.items (λ x b q k. search (rules, tests)) (λ w l. pre_past t law c.args.action w (omega (arith, law.few_vars)))
