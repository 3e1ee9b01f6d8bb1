-- Marking over gathered edges is marking over all actions.
use Rattle.std.proofs.Common.{◌≡◌, ℕ, zero, suc, Bool, true, false, cond, ◌&&◌, List, set, Some, None, Option, refl, ap, ◌∙◌}
use Rattle.tasks.specs.Task.{Priced}
use Rattle.detours.specs.declared.edges.Edge.{Edge}
use Rattle.detours.specs.Free.{is_free}
use Rattle.detours.specs.Edges.{put_first, free_edges}
use Rattle.reductions.specs.Reaching.{marked_source, mark, mark_targets, mark_reachable}
use Rattle.acceptance.specs.Marking.{mark_edges, mark_rounds}

module _ (p : Priced) (v : ℕ) where
  edge_if : ℕ → Bool → Option ℕ → Option Edge
  edge_if a free None = None
  edge_if a free (Some y) = cond free (Some (record { action = a; from = p.task.pre a v; to = y; price = p.price a })) None

  targets_same : (n a : ℕ) (marks : List Bool) → mark_edges (free_edges p v n a) marks ≡ mark_targets p.task v n a marks
  unfolding edge_if
  targets_same zero a marks = refl
  targets_same (suc n) a marks = go (p.task.eff a v) (is_free p.task v a) (marked_source (p.task.pre a v) marks) refl (targets_same n (suc a))
    where
      go : (o : Option ℕ) (free marked : Bool) → marked_source (p.task.pre a v) marks ≡ marked → ((ms : List Bool) → mark_edges (free_edges p v n (suc a)) ms ≡ mark_targets p.task v n (suc a) ms)
          → ◌≡◌ {A = List Bool} (mark_edges (put_first (edge_if a free o) (free_edges p v n (suc a))) marks)
          (elim (free && marked) [ true ↦ mark_targets p.task v n (suc a) (mark o marks) | false ↦ mark_targets p.task v n (suc a) marks ])
      go None true true e on = on marks
      go None true false e on = on marks
      go None false marked e on = on marks
      go (Some y) false marked e on = on marks
      go (Some y) true true e on = ap (λ (b : Bool). mark_edges (free_edges p v n (suc a)) (cond b (set marks y true) marks)) e ∙ on (set marks y true)
      go (Some y) true false e on = ap (λ (b : Bool). mark_edges (free_edges p v n (suc a)) (cond b (set marks y true) marks)) e ∙ on marks

  pub rounds_same : (n : ℕ) (marks : List Bool) → mark_rounds (free_edges p v p.task.acts 0) n marks ≡ mark_reachable p.task v n marks
  rounds_same zero marks = refl
  rounds_same (suc n) marks = ap (mark_rounds (free_edges p v p.task.acts 0) n) (targets_same p.task.acts 0 marks) ∙ rounds_same n (mark_targets p.task v p.task.acts 0 marks)

  -- the marks that edges made, if they are those of the free actions
  pub marks_are : (edges : List Edge) (n : ℕ) (start marks : List Bool) → edges ≡ free_edges p v p.task.acts 0 → marks ≡ mark_rounds edges n start → marks ≡ mark_reachable p.task v n start
  marks_are edges n start marks gathered is = is ∙ ap (λ (es : List Edge). mark_rounds es n start) gathered ∙ rounds_same n start
