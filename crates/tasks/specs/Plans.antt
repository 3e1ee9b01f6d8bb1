-- What it is to run actions, and what a plan is.
use Rattle.std.specs.Prelude.{◌≡◌, ℕ, suc, Bool, true, false, ◌&&◌, List, [], ◌∷◌, Some, None, Ok, Err, Option, Result, ◌==◌, slice_index}
use Rattle.tasks.specs.declared.refusal.Cause.TheVariants.{CannotRun, GoalMissed}
use Rattle.tasks.specs.declared.refusal.Refusal.{Refusal}
use Rattle.tasks.specs.declared.state.State.{State as Values}
use Rattle.tasks.specs.Bounds.{all_below, first_failing}
use Rattle.tasks.specs.Task.{Task}

-- x is the value asked for, if one is
abbrev pub agrees : Option ℕ → ℕ → Bool
agrees None x = true
agrees (Some y) x = x == y

-- the value that is set, if one is, and otherwise x
abbrev pub over : Option ℕ → ℕ → ℕ
over None x = x
over (Some y) x = y

-- a value for each variable; those of variables that are not live are never looked at
abbrev pub State : Type 0
State = ℕ → ℕ

-- what the array of a state holds
abbrev pub held : Values → State
held s = λ v. slice_index s.values v

abbrev pub can_run : Task → State → ℕ → Bool
can_run t s a = t.act_live a && all_below t.vars (λ v. agrees (t.pre a v) (s v))

abbrev pub after : Task → State → ℕ → State
after t s a = λ v. over (t.eff a v) (s v)

-- the state in which a list of actions ends, or none where one of them cannot run
abbrev pub run : Task → State → List ℕ → Option State
run t s [] = Some s
run t s (a ∷ rest) = elim (can_run t s a) [ true ↦ run t (after t s a) rest | false ↦ None ]

abbrev pub met : Task → State → Bool
met t s = all_below t.vars (λ v. agrees (t.goal v) (s v))

abbrev pub ends_well : Task → Option State → Bool
ends_well t None = false
ends_well t (Some s) = met t s

abbrev pub is_plan : Task → List ℕ → Bool
is_plan t list = ends_well t (run t t.init list)

abbrev pub Solvable : Task → Type 0
Solvable t = (plan : List ℕ) × (is_plan t plan ≡ true)

-- the lowest variable whose goal is missed
abbrev pub missed_goal : Task → State → Option ℕ
missed_goal t s = first_failing t.vars (λ v. agrees (t.goal v) (s v))

-- From s, the actions being numbered from i: the state at the end, or the number of the first action that cannot run.
abbrev pub ran_from : Task → State → ℕ → List ℕ → Result State ℕ
ran_from t s i [] = Ok s
ran_from t s i (a ∷ rest) = elim (can_run t s a) [ true ↦ ran_from t (after t s a) (suc i) rest | false ↦ Err i ]

abbrev pub ended : State → Option ℕ → Result State Refusal
ended s None = Ok s
ended s (Some v) = Err (record { cause = GoalMissed; place = v })

-- Refused at the action that cannot run, else at the lowest variable whose goal is missed; otherwise the state at the end.
abbrev pub judged : Task → Result State ℕ → Result State Refusal
judged t (Ok s) = ended s (missed_goal t s)
judged t (Err i) = Err (record { cause = CannotRun; place = i })

abbrev pub checked_from : Task → State → ℕ → List ℕ → Result State Refusal
checked_from t s i list = judged t (ran_from t s i list)

abbrev pub checked : Task → List ℕ → Result State Refusal
checked t plan = checked_from t t.init 0 plan

-- what an answer of the code says
abbrev pub answered : {E : Type 0} → Result Values E → Result State E
answered (Ok s) = Ok (held s)
answered (Err e) = Err e
