use Rattle.std.proofs.Common.{sym, subst}
use Rattle.tasks.specs.Task.{priced}
use Rattle.detours.specs.DetourLaw.{DetourDecides}
use Rattle.detours.proofs.Deciding.{detour_decides}
use Rattle.detours.proofs.detour.Goals as goal

pub returns-clause-law : goal.returns-clause-law
returns-clause-law g c =
    let m = g.M.Measure.scale in
    let p = priced (g.T.Task.meant c.args.task.now) (g.T.Priced.tariff c.args.task.now) in
    λ sized. subst (DetourDecides m p c.args.variable c.args.from c.args.to) (sym c.find-found.ensures) (detour_decides m g.met.M.Measure.lawful p (g.met.T.Task.lawful c.args.task.now) c.args.variable c.args.from c.args.to)
