use Rattle.std.proofs.Common.{◌≡◌, ◌≤◌, ◌⊎◌, inl, inr, eqb, true, List, ℕ, length, ap, ◌∙◌, rules}
use Rattle.detours.specs.Detours.{most_values}
use Rattle.detours.proofs.TraceLoop.{trace_more, trace_done}
use Rattle.detours.proofs.search.Search.trace_back.Goals.{then-loop-value-test+else-not-is_full, else-loop-value-test}
use Rattle.detours.proofs.search.Search.trace_back.Goals as goal

pub loop-value-preserved : goal.loop-value-preserved
unfolding most_values
loop-value-preserved g c = search (rules, trace_more)

pub returns : goal.returns
unfolding most_values
returns g c =
    let xs = c.loop-value.actions.items in
    let ends : (eqb c.loop-value.value c.args.from ≡ true) ⊎ (64 ≤ length xs) =
    elim c.loop-value-test.branch [
      | then-loop-value-test+else-not-is_full w ↦ inr (search (rules, w.if-not-is_full.ensures))
      | else-loop-value-test w ↦ inl (search (rules, w.loop-value-test.false))
    ] in
    c.new.ensures ∙ ap (λ (list : List ℕ). record { actions = list; total = c.args.total }) (trace_done c.args.self.now.marks c.args.from 64 c.loop-value.value xs _ _ _ c.as_mut_slice.ensures.value c.reverse.ensures.after ends c.loop-value.invariant)
