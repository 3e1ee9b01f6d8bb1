use Rattle.std.proofs.Common.{List, sym, ◌∙◌, subst, rules}
use Rattle.tasks.specs.Task.{priced}
use Rattle.detours.specs.declared.edges.Edge.{Edge}
use Rattle.detours.specs.Edges.{TargetsFit}
use Rattle.detours.proofs.GatheredSearch.{targets_fit, found}
use Rattle.detours.proofs.find.Goals as goal

pub settle_all-requires : goal.settle_all-requires
settle_all-requires g c = subst (λ (es : List Edge). TargetsFit es) (sym (c.as_slice.ensures ∙ c.gather-edges.ensures)) (targets_fit _ (g.met.T.Task.lawful c.args.task.now) _ _ 0)

pub returns : goal.returns
returns g c =
    let t = g.T.Task.meant c.args.task.now in
    let p = priced t (g.T.Priced.tariff c.args.task.now) in
    found g.M.Measure.scale p c.args.variable c.args.from c.args.to _ _ _ _ (search rules) (search rules) (c.as_slice.ensures ∙ c.gather-edges.ensures) c.begin-search.ensures c.settle_all.ensures c.read_off.ensures
