-- A list specialised action by action, as it is written.
use Rattle.std.proofs.Common.{◌≡◌, ℕ, ◌+◌, ◌<◌, ◌≤◌, cond, ◌&&◌, eqb, List, [], ◌∷◌, length, get_or, drop, Some, None, Option, sym, subst}
use Rattle.std.proofs.lemmas.List.{at_drop_more, at_drop_all}
use Rattle.tasks.specs.Task.{Task}
use Rattle.tasks.specs.Plans.{over}
use Rattle.reductions.specs.Steps.{has_value}
use Rattle.reductions.specs.Undoing.{specialised}
use Rattle.undoing.specs.Writing.{Wrote}
use Rattle.undoing.proofs.WritingOn.{wrote_nothing, wrote_append, wrote_fails}

module _ (t : Task) (v a b : ℕ) (list : List ℕ) where
  module _ (i c : ℕ) (l : i < length list) where
    abbrev d : ℕ
    d = get_or list i 0

    abbrev rest : List ℕ
    rest = specialised t v a b (over (t.eff d v) c) (drop (i + 1) list)

    specialised_first : specialised t v a b c (drop i list) ≡ cond (eqb d a && has_value c (t.pre b v)) b d ∷ rest
    specialised_first = at_drop_more (specialised t v a b c) list i 0 l

    pub specialise_more : (out : List ℕ) (at x : ℕ) (mid : List ℕ) (next : ℕ) → x ≡ cond (eqb d a && has_value c (t.pre b v)) b d → Wrote out at (x ∷ []) mid (Some next) → (c' : ℕ) → c' ≡ over (t.eff d v) c → (after : List ℕ) (o : Option ℕ) → Wrote mid next (specialised t v a b c' (drop (i + 1) list)) after o → Wrote out at (specialised t v a b c (drop i list)) after o
    specialise_more out at x mid next one w c' is after o more =
        subst (λ (ys : List ℕ). Wrote out at ys after o) (sym specialised_first)
        (wrote_append out at (cond (eqb d a && has_value c (t.pre b v)) b d ∷ []) mid next rest after o (subst (λ (y : ℕ). Wrote out at (y ∷ []) mid (Some next)) one w) (subst (λ (k : ℕ). Wrote mid next (specialised t v a b k (drop (i + 1) list)) after o) is more))

    pub specialise_fails : (out : List ℕ) (at x : ℕ) (mid : List ℕ) → x ≡ cond (eqb d a && has_value c (t.pre b v)) b d → Wrote out at (x ∷ []) mid None → Wrote out at (specialised t v a b c (drop i list)) mid None
    specialise_fails out at x mid one w =
        subst (λ (ys : List ℕ). Wrote out at ys mid None) (sym specialised_first)
        (wrote_fails out at (cond (eqb d a && has_value c (t.pre b v)) b d ∷ []) rest mid (subst (λ (y : ℕ). Wrote out at (y ∷ []) mid None) one w))

  pub specialise_end : (i c : ℕ) → length list ≤ i → (out : List ℕ) (at : ℕ) → at ≤ length out → Wrote out at (specialised t v a b c (drop i list)) out (Some at)
  specialise_end i c l out at within = subst (λ (ys : List ℕ). Wrote out at ys out (Some at)) (sym (at_drop_all (specialised t v a b c) list i l)) (wrote_nothing out at within)
