-- What the rows of a table say.
use Rattle.std.specs.Prelude.{ℕ, Bool, false, cond, Some, None, Option, is_some, slice_index_or}
use Rattle.tasks.specs.Task.{Task, Priced, priced}
use Rattle.reductions.specs.Applying.{kept_if, without}
use Rattle.tables.specs.declared.rows.Domain.{Domain}
use Rattle.tables.specs.declared.rows.Variable.{Variable}
use Rattle.tables.specs.declared.rows.Action.{Action}
use Rattle.tables.specs.declared.rows.Rows.{Rows}

-- a variable past the last row
abbrev pub absent : Variable
absent = record { size = 0; live = None }

abbrev pub variable_in : Rows → ℕ → Variable
variable_in r v = slice_index_or r.variables v absent

abbrev pub action_in : Rows → ℕ → Option Action
action_in r a = slice_index_or r.actions a None

-- what a row says of a variable, while it is live
abbrev pub value_of : Option Domain → ℕ → Bool
value_of None x = false
value_of (Some d) x = slice_index_or d.values x false

abbrev pub initial_of : Option Domain → ℕ
initial_of None = 0
initial_of (Some d) = d.initial

abbrev pub goal_of : Option Domain → Option ℕ
goal_of None = None
goal_of (Some d) = d.goal

-- what a row says of an action, while it is live
abbrev pub required : Option Action → ℕ → Option ℕ
required None v = None
required (Some a) v = slice_index_or a.preconditions v None

abbrev pub set_by : Option Action → ℕ → Option ℕ
set_by None v = None
set_by (Some a) v = slice_index_or a.effects v None

abbrev pub price_of : Option Action → ℕ
price_of None = 0
price_of (Some a) = a.price

-- the task of a row for each variable and each action; what an action says of a variable that is not live does not count
abbrev pub task_of : ℕ → ℕ → (ℕ → Variable) → (ℕ → Option Action) → Task
task_of vars acts variable action = record {
  vars = vars;
  acts = acts;
  size = λ v. (variable v).size;
  var_live = λ v. is_some (variable v).live;
  val_live = λ v x. value_of (variable v).live x;
  act_live = λ a. is_some (action a);
  pre = λ a v. kept_if (is_some (variable v).live) (required (action a) v);
  eff = λ a v. kept_if (is_some (variable v).live) (set_by (action a) v);
  init = λ v. initial_of (variable v).live;
  goal = λ v. goal_of (variable v).live;
}

abbrev pub priced_of : ℕ → ℕ → (ℕ → Variable) → (ℕ → Option Action) → Priced
priced_of vars acts variable action = priced (task_of vars acts variable action) (λ a. price_of (action a))

abbrev pub task_in : Rows → Task
task_in r = task_of r.variable_count r.action_count (variable_in r) (action_in r)

abbrev pub tabled : Rows → Priced
tabled r = priced_of r.variable_count r.action_count (variable_in r) (action_in r)

-- a priced task without the actions and the variables that fail a test
abbrev pub retired : Priced → (ℕ → Bool) → (ℕ → Bool) → Priced
retired p act var = record { task = without p.task act var; price = λ a. cond (act a) (p.price a) 0 }

-- the same prices for another task
abbrev pub at_prices : Priced → Task → Priced
at_prices p t = record { task = t; price = p.price }
