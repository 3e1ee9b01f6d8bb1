-- The law above the checking of a plan: what a run is, in the subject's words.
use Rattle.std.specs.Prelude.{◌≡◌, ℕ, suc, ◌<◌, true, List, length, Some, None, Ok, Err, Option, Result, slice_index, slice_index_or}
use Rattle.tasks.specs.declared.refusal.Refusal.{Refusal}
use Rattle.tasks.specs.Task.{Task}
use Rattle.tasks.specs.Plans.{State}

-- two states agree on every live variable
abbrev pub SameLive : Task → State → State → Type 0
SameLive t s u = (v : ℕ) → t.var_live v ≡ true → s v ≡ u v

-- s gives each live variable a live value
abbrev pub LiveValues : Task → State → Type 0
LiveValues t s = (v : ℕ) → t.var_live v ≡ true → t.val_live v (s v) ≡ true

-- s gives every value that is asked for
abbrev pub Meets : (ℕ → Option ℕ) → State → Type 0
Meets asked s = (v x : ℕ) → asked v ≡ Some x → s v ≡ x

-- action a is live and all its preconditions hold
pub record CanRun (t : Task) (s : State) (a : ℕ) : Type 0 where
  pub live : t.act_live a ≡ true
  pub holds : Meets (t.pre a) s

-- u is s with the effects of a set
pub record Effect (t : Task) (s : State) (a : ℕ) (u : State) : Type 0 where
  pub sets : Meets (t.eff a) u
  pub leaves : (v : ℕ) → t.var_live v ≡ true → t.eff a v ≡ None → u v ≡ s v

-- State i of a list of states; one past the end is never asked for.
abbrev pub state_at : List State → ℕ → State
state_at states i = slice_index_or states i (λ v. 0)

-- The states that a plan passes: the first is the start, each next one is the effect of an action that can run in the
-- one before, and the last meets every goal.
pub record RunFrom (t : Task) (start : State) (plan : List ℕ) (states : List State) : Type 0 where
  pub one_more : length states ≡ suc (length plan)
  pub starts : SameLive t (state_at states 0) start
  pub values : (i : ℕ) → i < length states → LiveValues t (state_at states i)
  pub runs : (i : ℕ) → i < length plan → CanRun t (state_at states i) (slice_index plan i)
  pub moves : (i : ℕ) → i < length plan → Effect t (state_at states i) (slice_index plan i) (state_at states (suc i))
  pub goals : Meets t.goal (state_at states (length plan))

abbrev pub Run : Task → List ℕ → List State → Type 0
Run t plan states = RunFrom t t.init plan states

-- An answer is the state in which a run ends; a refusal says that there is no run.
abbrev pub RunDecides : Task → List ℕ → Result State Refusal → Type 0
RunDecides t plan (Ok s) = (states : List State) × Run t plan states × SameLive t s (state_at states (length plan))
RunDecides t plan (Err e) = (states : List State) → Run t plan states → ⊥
