-- A target takes a total or does not, for one edge after another.
use Rattle.std.proofs.Common.{◌≡◌, ℕ, ◌+◌, ◌<◌, ◌≤◌, Bool, true, false, not, ◌&&◌, List, length, get_or, drop, set, Some, sym, ap, ◌∙◌}
use Rattle.std.proofs.lemmas.List.{at_drop_more, at_drop_all}
use Rattle.tasks.specs.Plans.{agrees}
use Rattle.tasks.specs.Measures.{CostAlgebra}
use Rattle.detours.specs.declared.edges.Edge.{Edge}
use Rattle.detours.specs.declared.marks.Mark.{Mark}
use Rattle.detours.specs.declared.marks.Mark.TheVariants.{Open}
use Rattle.detours.specs.Detours.{Label, unlabelled, improves, relax}
use Rattle.detours.specs.Marks.{label_of, labels}
use Rattle.detours.specs.EdgeSearch.{relax_edges}
use Rattle.detours.proofs.MarkedLabels.{labels_at, labels_set}

module _ {S : Type 0} (m : CostAlgebra S) (ks : List Mark) (xs : List S) (u a : ℕ) (x : S) (y : ℕ) (d : Mark) (old : S) (marked : y < length ks) (within : y < length xs) (old-is : old ≡ get_or xs y old) where
  taken : List (Label S)
  taken = set (labels ks xs) y (record { sum = Some x; via = a; from = u; done = false })

  choice : Label S → List (Label S)
  choice e = elim (not e.done && improves m x e.sum) [ true ↦ taken | false ↦ labels ks xs ]

  abbrev takes : Bool
  takes = not (label_of (get_or ks y d) old).done && improves m x (label_of (get_or ks y d) old).sum

  relax_is : relax m (labels ks xs) u a x (Some y) ≡ choice (label_of (get_or ks y d) old)
  unfolding choice taken
  relax_is = ap choice (labels_at ks xs y (unlabelled m) d old marked within ∙ ap (label_of (get_or ks y d)) (sym old-is))

  pub relax_takes : takes ≡ true → labels (set ks y (Open (record { via = a; from = u }))) (set xs y x) ≡ relax m (labels ks xs) u a x (Some y)
  unfolding choice taken
  relax_takes h = labels_set ks xs y (Open (record { via = a; from = u })) x ∙ sym (relax_is ∙ ap (λ (b : Bool). elim b [ true ↦ taken | false ↦ labels ks xs ]) h)

  pub relax_leaves : takes ≡ false → labels ks xs ≡ relax m (labels ks xs) u a x (Some y)
  unfolding choice taken
  relax_leaves h = sym (relax_is ∙ ap (λ (b : Bool). elim b [ true ↦ taken | false ↦ labels ks xs ]) h)

-- the edges that lead from u at the total x, as a loop tries them
module _ {S : Type 0} (m : CostAlgebra S) (u : ℕ) (x : S) where
  next : Edge → List Edge → List (Label S) → Bool → List (Label S)
  next e rest es b = elim b [ true ↦ relax_edges m u x rest (relax m es u e.action (m.join x (m.weight e.price)) (Some e.to)) | false ↦ relax_edges m u x rest es ]

  module _ (edges : List Edge) (i : ℕ) (d : Edge) (es : List (Label S)) (l : i < length edges) where
    first_is : relax_edges m u x (drop i edges) es ≡ next (get_or edges i d) (drop (i + 1) edges) es (agrees (get_or edges i d).from u)
    unfolding next
    first_is = at_drop_more (λ (rest : List Edge). relax_edges m u x rest es) edges i d l

    pub edge_relaxed : agrees (get_or edges i d).from u ≡ true → (after : List (Label S)) → after ≡ relax m es u (get_or edges i d).action (m.join x (m.weight (get_or edges i d).price)) (Some (get_or edges i d).to) → relax_edges m u x (drop (i + 1) edges) after ≡ relax_edges m u x (drop i edges) es
    unfolding next
    edge_relaxed h after is = ap (relax_edges m u x (drop (i + 1) edges)) is ∙ sym (first_is ∙ ap (next (get_or edges i d) (drop (i + 1) edges) es) h)

    pub edge_skipped : agrees (get_or edges i d).from u ≡ false → relax_edges m u x (drop (i + 1) edges) es ≡ relax_edges m u x (drop i edges) es
    unfolding next
    edge_skipped h = sym (first_is ∙ ap (next (get_or edges i d) (drop (i + 1) edges) es) h)

  pub edges_end : (edges : List Edge) (i : ℕ) (es : List (Label S)) → length edges ≤ i → relax_edges m u x (drop i edges) es ≡ es
  edges_end edges i es l = at_drop_all (λ (rest : List Edge). relax_edges m u x rest es) edges i l
