-- The five steps that reduce a task, and when one fits.
use Rattle.std.specs.Prelude.{ℕ, Bool, true, false, cond, not, ◌&&◌, ◌||◌, List, [], ◌∷◌, Some, None, Option, ◌==◌}
use Rattle.tasks.specs.Bounds.{all_below, count_below}
use Rattle.tasks.specs.Task.{Task, Priced}
use Rattle.detours.specs.Free.{absent, unmentioned}
use Rattle.reductions.specs.Reaching.{connected}

-- Each with its numbers in the order in which they are written.
pub data Step : Type 0 where
  -- v, x, y, a, b: actions a and b lead v from x to y and back, and every mention of x becomes one of y
  merge : ℕ → ℕ → ℕ → ℕ → ℕ → Step
  -- v, a, b: they differ only in the one of two values of v that they require, and a comes to stand for both
  generalise : ℕ → ℕ → ℕ → Step
  -- v has one value left
  variable : ℕ → Step
  -- action a does no more than a list of others does
  action : ℕ → List ℕ → Step
  -- v can be brought from every value to every other by free actions
  abstract : ℕ → Step

abbrev pub same_value : Option ℕ → Option ℕ → Bool
same_value None None = true
same_value None (Some y) = false
same_value (Some x) None = false
same_value (Some x) (Some y) = x == y

abbrev pub has_value : ℕ → Option ℕ → Bool
has_value x None = false
has_value x (Some y) = x == y

-- action a requires v = x and nothing else, and sets v = y and nothing else
abbrev pub is_move : Task → ℕ → ℕ → ℕ → ℕ → Bool
is_move t a v x y = all_below t.vars (λ w. cond (w == v) (has_value x (t.pre a w) && has_value y (t.eff a w)) (unmentioned t a w))

-- how many values of v below n are live
abbrev pub live_values : Task → ℕ → ℕ → ℕ
live_values t v n = count_below n (t.val_live v)

-- a and b require and set the same on every variable but v
abbrev pub agree_except : Task → ℕ → ℕ → ℕ → Bool
agree_except t v a b = all_below t.vars (λ w. (w == v) || (same_value (t.pre a w) (t.pre b w) && same_value (t.eff a w) (t.eff b w)))

abbrev pub both_differ : Option ℕ → Option ℕ → Bool
both_differ (Some x) (Some y) = not (x == y)
both_differ (Some x) None = false
both_differ None (Some y) = false
both_differ None None = false

-- The values that are known while a list of actions stands in for a: at first the preconditions of a.
abbrev pub Known : Type 0
Known = ℕ → Option ℕ

abbrev pub overridden : Option ℕ → Option ℕ → Option ℕ
overridden None k = k
overridden (Some x) k = Some x

abbrev pub needs_known : Option ℕ → Option ℕ → Bool
needs_known None k = true
needs_known (Some x) k = has_value x k

-- each action of the list needs its preconditions known and sets what is known; none where one of them is not
abbrev pub known_after : Task → Known → List ℕ → Option Known
known_after t k [] = Some k
known_after t k (c ∷ cs) =
    elim (all_below t.vars (λ w. needs_known (t.pre c w) (k w))) [ true ↦ known_after t (λ w. overridden (t.eff c w) (k w)) cs | false ↦ None ]

abbrev pub is_set_by : Task → List ℕ → ℕ → Bool
is_set_by t [] w = false
is_set_by t (c ∷ cs) w = not (absent (t.eff c w)) || is_set_by t cs w

-- what action a asks of w at the end: its effect is known, and a variable that only the list sets has its precondition value again
abbrev pub stands_in : Option ℕ → Option ℕ → Bool → Option ℕ → Bool
stands_in (Some y) pre set known = has_value y known
stands_in None pre set known = not set || (not (absent pre) && same_value pre known)

abbrev pub has_effect_of : Task → ℕ → List ℕ → Option Known → Bool
has_effect_of t a list None = false
has_effect_of t a list (Some k) = all_below t.vars (λ w. stands_in (t.eff a w) (t.pre a w) (is_set_by t list w) (k w))

-- the conditions of a step, but for its numbers being live
abbrev pub fits : Priced → Step → Bool
fits p (merge v x y a b) = not (x == y) && is_move p.task a v x y && is_move p.task b v y x
fits p (generalise v a b) = live_values p.task v (p.task.size v) == 2 && both_differ (p.task.pre a v) (p.task.pre b v) && absent (p.task.eff a v) && absent (p.task.eff b v) && p.price a == p.price b && agree_except p.task v a b
fits p (variable v) = live_values p.task v (p.task.size v) == 1
fits p (action a list) = has_effect_of p.task a list (known_after p.task (p.task.pre a) list)
fits p (abstract v) = connected p.task v
