use mathlib.Core.Path.{fun_ext}
use Rattle.std.proofs.Common.{ℕ, Bool, List, rules, false, true, not, ◌||◌, ap, replicate, set, ◌∙◌, refl}
use borrow.Author.Tests.{tests}
use Rattle.tasks.specs.Task.{priced}
use Rattle.tasks.specs.Bounds.{all_below}
use Rattle.detours.specs.declared.edges.Edge.{Edge}
use Rattle.detours.specs.Edges.{edges_in}
use Rattle.reductions.specs.Reaching.{all_marked}
use Rattle.acceptance.specs.Marking.{mark_rounds}
use Rattle.tasks.proofs.Counted.{all_from_range}
use Rattle.acceptance.proofs.GatheredMarks.{marks_are}
use Rattle.acceptance.proofs.reaching.is_connected.Goals as goal

pub returns : goal.returns
returns g c =
    let t = g.T.Task.meant c.args.task.now in
    let p = priced t (g.T.Priced.tariff c.args.task.now) in
    let v = c.args.variable in
    let start : ℕ → List Bool = λ value. set (replicate 64 false) value true in
    let edges : List Edge = edges_in c.gather-edges.result in
    all_from_range (λ value. not (t.val_live v value) || all_marked t v (mark_rounds edges (t.size v) (start value))) (t.size v) _ _ _ c.all.ensures.ran (search rules) (λ x b q k. search (rules, tests))
    ∙ ap (all_below (t.size v)) (fun_ext (λ value. ap (λ (marks : List Bool). not (t.val_live v value) || all_marked t v marks) (marks_are p v edges (t.size v) (start value) _ c.gather-edges.ensures refl)))
