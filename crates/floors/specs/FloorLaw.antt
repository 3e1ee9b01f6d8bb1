-- The law above the task of a floor, in rows and columns.
use Rattle.std.specs.Prelude.{◌≡◌, ℕ, ◌+◌, ◌*◌, ◌/◌, ◌%◌, ◌<◌, true, ◌⊎◌, length, Some, None, Option, ◌≢◌, slice_index}
use Rattle.tasks.specs.Task.{Task, Priced}
use Rattle.tasks.specs.Plans.{State, can_run}
use Rattle.floors.specs.Floors.{Pool, cell_count, open_cell}

abbrev pub row : Pool → ℕ → ℕ
row p c = c / p.wide

abbrev pub column : Pool → ℕ → ℕ
column p c = c % p.wide

abbrev pub DifferByOne : ℕ → ℕ → Type 0
DifferByOne m n = (m + 1 ≡ n) ⊎ (n + 1 ≡ m)

abbrev pub ShareASide : Pool → ℕ → ℕ → Type 0
ShareASide p c d =
    ((row p c ≡ row p d) × DifferByOne (column p c) (column p d)) ⊎ ((column p c ≡ column p d) × DifferByOne (row p c) (row p d))

abbrev pub Open : Pool → ℕ → Type 0
Open p c = open_cell p c ≡ true

-- x is named for variable v, and nothing for any other
pub record Only (named : ℕ → Option ℕ) (v x : ℕ) : Type 0 where
  pub here : named v ≡ Some x
  pub elsewhere : (w : ℕ) → (w ≢ v) → named w ≡ None

-- action a is live, takes the robot from cell c to cell d, and does nothing else
pub record Moves (t : Task) (a c d : ℕ) : Type 0 where
  pub live : t.act_live a ≡ true
  pub from : Only (t.pre a) 0 c
  pub to : Only (t.eff a) 0 d

-- action a is live, requires cell c and nothing else, so that it can run in just those states that have the robot there, and
-- does nothing but to set variable k to 1
pub record Samples (t : Task) (a c k : ℕ) : Type 0 where
  pub live : t.act_live a ≡ true
  pub at : Only (t.pre a) 0 c
  pub runs : (s : State) → s 0 ≡ c → can_run t s a ≡ true
  pub runs_only_there : (s : State) → can_run t s a ≡ true → s 0 ≡ c
  pub sets : Only (t.eff a) k 1

-- what the task and the prices of floor p are
pub record FloorLaw (p : Pool) (q : Priced) : Type 0 where
  pub start_open : Open p p.start
  pub starts : q.task.init 0 ≡ p.start
  pub variables : q.task.vars ≡ 1 + length p.points
  pub values : (x : ℕ) → q.task.val_live 0 x ≡ open_cell p x
  -- a move joins every two open cells that share a side, and no others
  pub joins : (c d : ℕ) → Open p c → Open p d → ShareASide p c d → (a : ℕ) × Moves q.task a c d
  pub joined : (a c d : ℕ) → Moves q.task a c d → Open p c × Open p d × ShareASide p c d
  pub move_costs : (a c d : ℕ) → Moves q.task a c d → q.price a ≡ slice_index p.prices d
  -- the actions below four for each cell are moves or retired
  pub moves : (a : ℕ) → a < 4 * cell_count p → q.task.act_live a ≡ true → (c : ℕ) × (d : ℕ) × Moves q.task a c d
  -- then each point, from 1, has its sample
  pub samples : (k : ℕ) → k < length p.points → Samples q.task (4 * cell_count p + k) (slice_index p.points k) (k + 1)
  pub sample_costs : (k : ℕ) → k < length p.points → q.price (4 * cell_count p + k) ≡ p.sampling
  -- and no action is live that is neither
  pub no_other : (a : ℕ) → q.task.act_live a ≡ true → ((c : ℕ) × (d : ℕ) × Moves q.task a c d) ⊎ ((k : ℕ) × (k < length p.points) × (a ≡ 4 * cell_count p + k))
  -- what is wanted is a sample of every point
  pub wanted : (k : ℕ) → k < length p.points → (q.task.init (k + 1) ≡ 0) × (q.task.goal (k + 1) ≡ Some 1)
  pub no_other_goal : (v x : ℕ) → q.task.goal v ≡ Some x → (k : ℕ) × (k < length p.points) × (v ≡ k + 1)
