-- Gathering the edges, as a loop does it.
use Rattle.std.proofs.Common.{◌≡◌, ℕ, suc, ◌+◌, ◌-◌, ◌<◌, List, [], ◌∷◌, ◌++◌, Some, None, Option, sym, ap, ◌∙◌, add-one, arith}
use Rattle.std.proofs.lemmas.List.{append_assoc}
use Rattle.tasks.specs.Task.{Priced}
use Rattle.detours.specs.declared.edges.Edge.{Edge}
use Rattle.detours.specs.Edges.{edge_of, put_first, free_edges}

module _ (p : Priced) (v : ℕ) where
  next : ℕ → ℕ → Option Edge → List Edge
  next n a o = put_first o (free_edges p v n (suc a))

  free_edges_next : (n a : ℕ) → a < n → free_edges p v (n - a) a ≡ next (n - (a + 1)) a (edge_of p v a)
  unfolding next
  free_edges_next n a l = let e : n - a ≡ suc (n - (a + 1)) = omega arith in ap (λ (k : ℕ). free_edges p v k a) e

  module _ (n a : ℕ) (l : a < n) (xs : List Edge) (h : xs ++ free_edges p v (n - a) a ≡ free_edges p v n 0) where
    -- the next action is an edge, or is not
    pub gathered_more : (e : Edge) (ys : List Edge) → edge_of p v a ≡ Some e → ys ≡ xs ++ (e ∷ []) → ys ++ free_edges p v (n - (a + 1)) (a + 1) ≡ free_edges p v n 0
    unfolding next
    gathered_more e ys is put =
        ap (λ (k : List Edge). k ++ free_edges p v (n - (a + 1)) (a + 1)) put
        ∙ append_assoc xs (e ∷ []) (free_edges p v (n - (a + 1)) (a + 1))
        ∙ ap (λ (k : ℕ). xs ++ (e ∷ free_edges p v (n - (a + 1)) k)) (add-one a)
        ∙ sym (ap (λ (k : List Edge). xs ++ k) (free_edges_next n a l ∙ ap (next (n - (a + 1)) a) is))
        ∙ h

    pub gathered_same : edge_of p v a ≡ None → xs ++ free_edges p v (n - (a + 1)) (a + 1) ≡ free_edges p v n 0
    unfolding next
    gathered_same is =
        ap (λ (k : ℕ). xs ++ free_edges p v (n - (a + 1)) k) (add-one a)
        ∙ sym (ap (λ (k : List Edge). xs ++ k) (free_edges_next n a l ∙ ap (next (n - (a + 1)) a) is))
        ∙ h
