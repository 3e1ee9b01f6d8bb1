-- That a row says what a task answers.
use Rattle.std.specs.Prelude.{◌≡◌, ℕ, Option, is_some}
use Rattle.tasks.specs.Task.{Task, Priced}
use Rattle.tables.specs.declared.rows.Variable.{Variable}
use Rattle.tables.specs.declared.rows.Action.{Action}
use Rattle.tables.specs.Tabled.{value_of, initial_of, goal_of, required, set_by, price_of}

pub record VariableCopied (t : Task) (v : ℕ) (row : Variable) : Type 0 where
  pub size : row.size ≡ t.size v
  pub live : is_some row.live ≡ t.var_live v
  pub values : (x : ℕ) → value_of row.live x ≡ t.val_live v x
  pub initial : initial_of row.live ≡ t.init v
  pub goal : goal_of row.live ≡ t.goal v

pub record ActionCopied (p : Priced) (a : ℕ) (row : Option Action) : Type 0 where
  pub live : is_some row ≡ p.task.act_live a
  pub price : price_of row ≡ p.price a
  pub preconditions : (v : ℕ) → required row v ≡ p.task.pre a v
  pub effects : (v : ℕ) → set_by row v ≡ p.task.eff a v
