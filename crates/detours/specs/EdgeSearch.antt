-- The search over the gathered edges.
use Rattle.std.specs.Prelude.{ℕ, zero, suc, true, false, List, [], ◌∷◌, Some, None, slice_index_or, slice_set}
use Rattle.tasks.specs.Plans.{agrees}
use Rattle.tasks.specs.Measures.{CostAlgebra}
use Rattle.detours.specs.declared.edges.Edge.{Edge}
use Rattle.detours.specs.Detours.{Label, unlabelled, least_open, relax, total_at, closed}

module _ {S : Type 0} (m : CostAlgebra S) where
  -- the edges that lead from u, whose total is x, one after another
  abbrev pub relax_edges : ℕ → S → List Edge → List (Label S) → List (Label S)
  relax_edges u x [] es = es
  relax_edges u x (e ∷ rest) es =
      elim (agrees e.from u) [
        | true ↦ relax_edges u x rest (relax m es u e.action (m.join x (m.weight e.price)) (Some e.to))
        | false ↦ relax_edges u x rest es
      ]

  -- as values are settled, but over edges that were gathered once
  abbrev pub settle_edges : List Edge → ℕ → List (Label S) → List (Label S)
  settle_edges edges zero es = es
  settle_edges edges (suc fuel) es =
      elim (least_open m es 0 None None) [
        | None ↦ es
        | Some u ↦
            let e = slice_index_or es u (unlabelled m) in
            settle_edges edges fuel (relax_edges u (total_at m e.sum) edges (slice_set es u (closed m e)))
      ]
