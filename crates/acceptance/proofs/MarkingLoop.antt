-- Marking, edge by edge and round by round.
use Rattle.std.proofs.Common.{◌≡◌, ℕ, zero, suc, ◌+◌, ◌-◌, ◌<◌, ◌≤◌, Bool, true, false, cond, not, ◌&&◌, List, [], ◌∷◌, length, get_or, drop, set, sym, refl, ap, ◌∙◌, arith}
use Rattle.std.proofs.lemmas.List.{at_drop_more, at_drop_all}
use Rattle.std.proofs.lemmas.Bool.{false≢true, not-false}
use Rattle.detours.specs.declared.edges.Edge.{Edge}
use Rattle.reductions.specs.Reaching.{marked_source}
use Rattle.acceptance.specs.Marking.{mark_edges, mark_rounds}

set_marked : (marks : List Bool) (i : ℕ) → get_or marks i false ≡ true → set marks i true ≡ marks
set_marked [] i e = refl
set_marked (b ∷ marks) zero e = ap (λ (x : Bool). x ∷ marks) (sym e)
set_marked (b ∷ marks) (suc i) e = ap (λ (xs : List Bool). b ∷ xs) (set_marked marks i e)

module _ (edges : List Edge) where
  module _ (i : ℕ) (d : Edge) (marks : List Bool) (l : i < length edges) where
    abbrev e : Edge
    e = get_or edges i d

    first_is : mark_edges (drop i edges) marks ≡ mark_edges (drop (i + 1) edges) (cond (marked_source e.from marks) (set marks e.to true) marks)
    first_is = at_drop_more (λ (rest : List Edge). mark_edges rest marks) edges i d l

    pub mark_new : (marked_source e.from marks && not (get_or marks e.to false)) ≡ true → mark_edges (drop (i + 1) edges) (set marks e.to true) ≡ mark_edges (drop i edges) marks
    mark_new h = go (marked_source e.from marks) h first_is
      where
        go : (b : Bool) → (b && not (get_or marks e.to false)) ≡ true → mark_edges (drop i edges) marks ≡ mark_edges (drop (i + 1) edges) (cond b (set marks e.to true) marks) → mark_edges (drop (i + 1) edges) (set marks e.to true) ≡ mark_edges (drop i edges) marks
        go true k is = sym is
        go false k is = absurd (false≢true k)

    pub mark_old : (marked_source e.from marks && not (get_or marks e.to false)) ≡ false → mark_edges (drop (i + 1) edges) marks ≡ mark_edges (drop i edges) marks
    mark_old h = go (marked_source e.from marks) h first_is
      where
        go : (b : Bool) → (b && not (get_or marks e.to false)) ≡ false → mark_edges (drop i edges) marks ≡ mark_edges (drop (i + 1) edges) (cond b (set marks e.to true) marks) → mark_edges (drop (i + 1) edges) marks ≡ mark_edges (drop i edges) marks
        go true k is = sym (is ∙ ap (mark_edges (drop (i + 1) edges)) (set_marked marks e.to (not-false (get_or marks e.to false) k)))
        go false k is = sym is

  pub mark_end : (i : ℕ) (marks : List Bool) → length edges ≤ i → mark_edges (drop i edges) marks ≡ marks
  mark_end i marks l = at_drop_all (λ (rest : List Edge). mark_edges rest marks) edges i l

  -- a round more, and rounds that change nothing
  pub round_more : (n round : ℕ) (marks after : List Bool) → round < n → after ≡ mark_edges edges marks → mark_rounds edges (n - (round + 1)) after ≡ mark_rounds edges (n - round) marks
  round_more n round marks after l is = let fuel : n - round ≡ suc (n - (round + 1)) = omega arith in ap (mark_rounds edges (n - (round + 1))) is ∙ sym (ap (λ (k : ℕ). mark_rounds edges k marks) fuel)

  rounds_still : (n : ℕ) (marks : List Bool) → marks ≡ mark_edges edges marks → mark_rounds edges n marks ≡ marks
  rounds_still zero marks is = refl
  rounds_still (suc n) marks is = ap (mark_rounds edges n) (sym is) ∙ rounds_still n marks is

  pub round_last : (n round : ℕ) (marks after start : List Bool) → mark_rounds edges (n - round) marks ≡ mark_rounds edges n start → after ≡ mark_edges edges marks → after ≡ marks → after ≡ mark_rounds edges n start
  round_last n round marks after start inv is same = same ∙ sym (rounds_still (n - round) marks (sym same ∙ is)) ∙ inv

  pub rounds_first : (n : ℕ) (marks : List Bool) → mark_rounds edges (n - 0) marks ≡ mark_rounds edges n marks
  rounds_first n marks = let e : n - 0 ≡ n = omega arith in ap (λ (k : ℕ). mark_rounds edges k marks) e
