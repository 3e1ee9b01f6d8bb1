-- What a row says once a value of a variable is renamed.
use Rattle.std.specs.Prelude.{◌≡◌, ℕ, Bool, cond, not, ◌&&◌, ◌==◌, Option, is_some}
use Rattle.reductions.specs.Applying.{rename_to}
use Rattle.tables.specs.declared.rows.Variable.{Variable}
use Rattle.tables.specs.declared.rows.Action.{Action}
use Rattle.tables.specs.Tabled.{value_of, initial_of, goal_of, required, set_by, price_of}

-- of the variable whose value x is renamed to y, or of another
pub record VariableRenamed (here : Bool) (x y : ℕ) (old new : Variable) : Type 0 where
  pub size : new.size ≡ old.size
  pub live : is_some new.live ≡ is_some old.live
  pub values : (z : ℕ) → value_of new.live z ≡ (value_of old.live z && not (here && z == x))
  pub initial : initial_of new.live ≡ cond (here && initial_of old.live == x) y (initial_of old.live)
  pub goal : goal_of new.live ≡ cond here (rename_to x y (goal_of old.live)) (goal_of old.live)

-- of an action, where the variable is v
pub record ActionRenamed (v x y : ℕ) (old new : Option Action) : Type 0 where
  pub live : is_some new ≡ is_some old
  pub price : price_of new ≡ price_of old
  pub preconditions : (w : ℕ) → required new w ≡ cond (w == v) (rename_to x y (required old w)) (required old w)
  pub effects : (w : ℕ) → set_by new w ≡ cond (w == v) (rename_to x y (set_by old w)) (set_by old w)
