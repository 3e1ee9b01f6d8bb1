use Rattle.std.proofs.Common.{rules}
use borrow.Author.Tests.{tests}
use Rattle.tasks.proofs.Counted.{filled_reads}
use Rattle.tasks.proofs.Lawful.{init_past}
use Rattle.tasks.proofs.state.State.initial.Goals as goal

pub returns : goal.returns
returns g c =
    let t = g.T.Task.meant c.args.task.now in
    filled_reads t.init 0 _ _ _ c.from_fn.ensures.items (λ x b q k. search (rules, tests)) (init_past t (g.met.T.Task.lawful c.args.task.now))
