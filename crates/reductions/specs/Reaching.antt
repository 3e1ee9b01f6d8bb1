-- Which values of a variable free actions lead to.
use Rattle.std.specs.Prelude.{ℕ, zero, suc, Bool, true, false, not, ◌&&◌, ◌||◌, List, replicate, Some, None, Option, slice_index_or, slice_set}
use Rattle.tasks.specs.Bounds.{all_below}
use Rattle.tasks.specs.Task.{Task}
use Rattle.detours.specs.Free.{is_free}

-- Values of v are marked, the start first, and the free actions mark those that they lead to, one action after another.
-- An action without a precondition leads from every value, so from a marked one.
abbrev pub marked_source : Option ℕ → List Bool → Bool
marked_source None marks = true
marked_source (Some c) marks = slice_index_or marks c false

abbrev pub mark : Option ℕ → List Bool → List Bool
mark None marks = marks
mark (Some r) marks = slice_set marks r true

-- n actions from a on
abbrev pub mark_targets : Task → ℕ → ℕ → ℕ → List Bool → List Bool
mark_targets t v zero a marks = marks
mark_targets t v (suc n) a marks =
    elim (is_free t v a && marked_source (t.pre a v) marks) [ true ↦ mark_targets t v n (suc a) (mark (t.eff a v) marks) | false ↦ mark_targets t v n (suc a) marks ]

-- n rounds over all actions
abbrev pub mark_reachable : Task → ℕ → ℕ → List Bool → List Bool
mark_reachable t v zero marks = marks
mark_reachable t v (suc n) marks = mark_reachable t v n (mark_targets t v t.acts 0 marks)

-- as many rounds as v has values; 64 is the most that a variable has
abbrev pub reachable_from : Task → ℕ → ℕ → List Bool
reachable_from t v c = mark_reachable t v (t.size v) (slice_set (replicate 64 false) c true)

-- every live value is marked
abbrev pub all_marked : Task → ℕ → List Bool → Bool
all_marked t v marks = all_below (t.size v) (λ r. not (t.val_live v r) || slice_index_or marks r false)

-- from each live value of v every other can be reached by free actions
abbrev pub connected : Task → ℕ → Bool
connected t v = all_below (t.size v) (λ c. not (t.val_live v c) || all_marked t v (reachable_from t v c))
