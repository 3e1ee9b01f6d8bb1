-- The list of an action step, action by action.
use Rattle.std.proofs.Common.{nat_lt, arith, [], ◌∷◌, refl, cond, ◌≡◌, ℕ, suc, ◌+◌, ◌<◌, ◌≤◌, Bool, true, false, not, ◌||◌, List, length, get_or, drop, Some, None, Option, sym, ap, ◌∙◌}
use Rattle.std.proofs.lemmas.List.{at_drop_more, at_drop_all}
use Rattle.std.proofs.lemmas.Bool.Decides.{nat_tests}
use Rattle.std.specs.List.{list_any, position, position_or_len}
use Rattle.tasks.specs.Bounds.{all_below}
use Rattle.tasks.specs.Task.{Task}
use Rattle.detours.specs.Free.{absent}
use Rattle.reductions.specs.Steps.{Known, needs_known, overridden, known_after, is_set_by}
use Rattle.reductions.specs.Acceptance.{listable, first_unlisted}

module _ (t : Task) (list : List ℕ) where
  -- what is known after the list
  module _ (i : ℕ) (k : Known) where
    allowed : Bool
    allowed = all_below t.vars (λ w. needs_known (t.pre (get_or list i 0) w) (k w))

    next_known : Bool → Option Known
    next_known b = elim b [ true ↦ known_after t (λ w. overridden (t.eff (get_or list i 0) w) (k w)) (drop (i + 1) list) | false ↦ None ]

    known_first : i < length list → known_after t k (drop i list) ≡ next_known allowed
    unfolding next_known allowed
    known_first l = at_drop_more (known_after t k) list i 0 l

    pub known_more : i < length list → all_below t.vars (λ w. needs_known (t.pre (get_or list i 0) w) (k w)) ≡ true → (after : Known) → after ≡ (λ w. overridden (t.eff (get_or list i 0) w) (k w)) → known_after t after (drop (i + 1) list) ≡ known_after t k (drop i list)
    unfolding next_known allowed
    known_more l h after is = ap (λ (e : Known). known_after t e (drop (i + 1) list)) is ∙ sym (known_first l ∙ ap next_known h)

    pub known_stops : i < length list → all_below t.vars (λ w. needs_known (t.pre (get_or list i 0) w) (k w)) ≡ false → ◌≡◌ {A = Option Known} None (known_after t k (drop i list))
    unfolding next_known allowed
    known_stops l h = sym (known_first l ∙ ap next_known h)

    pub known_end : length list ≤ i → Some k ≡ known_after t k (drop i list)
    known_end l = sym (at_drop_all (known_after t k) list i l)

-- whether a variable is set, by the library's word
pub set_by_any : (t : Task) (w : ℕ) (list : List ℕ) → list_any (λ a. not (absent (t.eff a w))) list ≡ is_set_by t list w
set_by_any t w [] = refl
set_by_any t w (a ∷ rest) = ap (λ (b : Bool). not (absent (t.eff a w)) || b) (set_by_any t w rest)

-- the first action that may not stand in a list, numbered from i, by the library's word
module _ (t : Task) (a : ℕ) where
  found : ℕ → List ℕ → Option ℕ
  found i list = cond (nat_lt (position_or_len (λ other. not (listable t a other)) list) (length list)) (Some (i + position_or_len (λ other. not (listable t a other)) list)) None

  later : (i m n : ℕ) → cond (nat_lt (1 + m) (suc n)) (Some (i + (1 + m))) None ≡ cond (nat_lt m n) (Some (suc i + m)) None
  later i m n = grind (arith, nat_tests)

  here : (i n : ℕ) → cond (nat_lt 0 (suc n)) (Some (i + 0)) None ≡ Some i
  here i n = grind (arith, nat_tests)

  unlisted_from : (i : ℕ) (list : List ℕ) → found i list ≡ first_unlisted t a i list
  unfolding found
  unlisted_from i [] = refl
  unlisted_from i (b ∷ rest) = go (listable t a b) refl (unlisted_from (suc i) rest)
    where
      go : (l : Bool) → listable t a b ≡ l → found (suc i) rest ≡ first_unlisted t a (suc i) rest → found i (b ∷ rest) ≡ elim l [ true ↦ first_unlisted t a (suc i) rest | false ↦ Some i ]
      go true e more = rw e (later i (position_or_len (λ other. not (listable t a other)) rest) (length rest) ∙ more)
      go false e more = rw e (here i (length rest))

  start : (list : List ℕ) → found 0 list ≡ position (λ other. not (listable t a other)) list
  unfolding found
  start list = let e : 0 + position_or_len (λ other. not (listable t a other)) list ≡ position_or_len (λ other. not (listable t a other)) list = omega arith in rw e refl

  pub unlisted_position : (list : List ℕ) → position (λ other. not (listable t a other)) list ≡ first_unlisted t a 0 list
  unlisted_position list = sym (start list) ∙ unlisted_from 0 list
