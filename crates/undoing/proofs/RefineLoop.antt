-- A list refined action by action, as it is written.
use Rattle.std.proofs.Common.{◌≡◌, ℕ, ◌+◌, ◌<◌, ◌≤◌, List, [], ◌∷◌, ◌++◌, length, get_or, drop, Some, None, Option, sym, ap, ◌∙◌, subst}
use Rattle.std.proofs.lemmas.List.{at_drop_more, at_drop_all}
use Rattle.tasks.specs.Task.{Task, Priced}
use Rattle.tasks.specs.Plans.{over}
use Rattle.tasks.specs.Measures.{CostAlgebra, CostLaws}
use Rattle.tasks.specs.Totals.{total}
use Rattle.tasks.proofs.CostAlgebras.{total_append}
use Rattle.reductions.specs.Undoing.{Connector, connect, refined, insertions}
use Rattle.undoing.specs.Writing.{Wrote}
use Rattle.undoing.proofs.WritingOn.{wrote_append, wrote_fails}

module _ (bring : Connector) (t : Task) (v : ℕ) (list : List ℕ) where
  module _ (i c : ℕ) (l : i < length list) where
    abbrev a : ℕ
    a = get_or list i 0

    abbrev xs : List ℕ
    xs = connect bring c (t.pre a v)

    abbrev rest : List ℕ
    rest = refined bring t v (over (t.eff a v) (over (t.pre a v) c)) (drop (i + 1) list)

    refined_first : refined bring t v c (drop i list) ≡ xs ++ (a ∷ rest)
    refined_first = at_drop_more (refined bring t v c) list i 0 l

    -- the actions that bring v there and the action itself are written, or one of them does not fit
    pub refine_more : (out : List ℕ) (at : ℕ) (mid : List ℕ) (next : ℕ) (last : List ℕ) (end : ℕ) → Wrote out at xs mid (Some next) → Wrote mid next (a ∷ []) last (Some end) → (c' : ℕ) → c' ≡ over (t.eff a v) (over (t.pre a v) c) → (after : List ℕ) (o : Option ℕ) → Wrote last end (refined bring t v c' (drop (i + 1) list)) after o → Wrote out at (refined bring t v c (drop i list)) after o
    refine_more out at mid next last end w u c' is after o more =
        subst (λ (ys : List ℕ). Wrote out at ys after o) (sym refined_first)
        (wrote_append out at xs mid next (a ∷ rest) after o w
        (wrote_append mid next (a ∷ []) last end rest after o u (subst (λ (k : ℕ). Wrote last end (refined bring t v k (drop (i + 1) list)) after o) is more)))

    pub refine_fails : (out : List ℕ) (at : ℕ) (mid : List ℕ) → Wrote out at xs mid None → Wrote out at (refined bring t v c (drop i list)) mid None
    refine_fails out at mid w = subst (λ (ys : List ℕ). Wrote out at ys mid None) (sym refined_first) (wrote_fails out at xs (a ∷ rest) mid w)

    pub action_fails : (out : List ℕ) (at : ℕ) (mid : List ℕ) (next : ℕ) (last : List ℕ) → Wrote out at xs mid (Some next) → Wrote mid next (a ∷ []) last None → Wrote out at (refined bring t v c (drop i list)) last None
    action_fails out at mid next last w u =
        subst (λ (ys : List ℕ). Wrote out at ys last None) (sym refined_first)
        (wrote_append out at xs mid next (a ∷ rest) last None w (wrote_fails mid next (a ∷ []) rest last u))

    -- and the totals of what is inserted
    pub inserted_more : {S : Type 0} (m : CostAlgebra S) → CostLaws m → (p : Priced) (so_far all : S) → m.join so_far (total m p (insertions bring t v c (drop i list))) ≡ all → (c' : ℕ) → c' ≡ over (t.eff a v) (over (t.pre a v) c) → m.join (m.join so_far (total m p xs)) (total m p (insertions bring t v c' (drop (i + 1) list))) ≡ all
    inserted_more m laws p so_far all inv c' is =
        let later = insertions bring t v (over (t.eff a v) (over (t.pre a v) c)) (drop (i + 1) list) in
        ap (λ (k : ℕ). m.join (m.join so_far (total m p xs)) (total m p (insertions bring t v k (drop (i + 1) list)))) is
        ∙ laws.assoc so_far (total m p xs) (total m p later)
        ∙ ap (m.join so_far) (sym (total_append m laws p xs later) ∙ sym (ap (total m p) (at_drop_more (insertions bring t v c) list i 0 l)))
        ∙ inv

  -- the goal is left
  pub refine_end : (i c : ℕ) → length list ≤ i → (out : List ℕ) (at : ℕ) (after : List ℕ) (o : Option ℕ) → Wrote out at (connect bring c (t.goal v)) after o → Wrote out at (refined bring t v c (drop i list)) after o
  refine_end i c l out at after o w = subst (λ (ys : List ℕ). Wrote out at ys after o) (sym (at_drop_all (refined bring t v c) list i l)) w

  pub inserted_end : {S : Type 0} (m : CostAlgebra S) (p : Priced) (i c : ℕ) → length list ≤ i → (so_far all : S) → m.join so_far (total m p (insertions bring t v c (drop i list))) ≡ all → m.join so_far (total m p (connect bring c (t.goal v))) ≡ all
  inserted_end m p i c l so_far all inv = sym (ap (λ (ys : List ℕ). m.join so_far (total m p ys)) (at_drop_all (insertions bring t v c) list i l)) ∙ inv
