-- What a task is after a step.
use Rattle.std.specs.Prelude.{ℕ, Bool, true, cond, not, ◌&&◌, ◌||◌, List, [], ◌∷◌, Some, None, Option, ◌==◌}
use Rattle.tasks.specs.Task.{Task, Priced}
use Rattle.detours.specs.Free.{is_free}
use Rattle.reductions.specs.Steps.{Step, merge, generalise, variable, action, abstract}

abbrev pub rename_to : ℕ → ℕ → Option ℕ → Option ℕ
rename_to x y None = None
rename_to x y (Some z) = cond (z == x) (Some y) (Some z)

abbrev pub kept_if : Bool → Option ℕ → Option ℕ
kept_if b o = cond b o None

-- the actions and the variables that fail a test are retired
abbrev pub without : Task → (ℕ → Bool) → (ℕ → Bool) → Task
without t act var = record {
  vars = t.vars;
  acts = t.acts;
  size = t.size;
  var_live = λ v. t.var_live v && var v;
  val_live = λ v x. t.val_live v x && var v;
  act_live = λ a. t.act_live a && act a;
  pre = λ a v. kept_if (act a && var v) (t.pre a v);
  eff = λ a v. kept_if (act a && var v) (t.eff a v);
  init = λ v. cond (var v) (t.init v) 0;
  goal = λ v. kept_if (var v) (t.goal v);
}

-- every mention of x in v reads y, and x is retired
abbrev pub value_renamed : Task → ℕ → ℕ → ℕ → Task
value_renamed t v x y = record {
  vars = t.vars;
  acts = t.acts;
  size = t.size;
  var_live = t.var_live;
  val_live = λ w z. t.val_live w z && not (w == v && z == x);
  act_live = t.act_live;
  pre = λ a w. cond (w == v) (rename_to x y (t.pre a w)) (t.pre a w);
  eff = λ a w. cond (w == v) (rename_to x y (t.eff a w)) (t.eff a w);
  init = λ w. cond (w == v && t.init w == x) y (t.init w);
  goal = λ w. cond (w == v) (rename_to x y (t.goal w)) (t.goal w);
}

-- action a no longer requires a value of v
abbrev pub precondition_dropped : Task → ℕ → ℕ → Task
precondition_dropped t v a = record {
  vars = t.vars;
  acts = t.acts;
  size = t.size;
  var_live = t.var_live;
  val_live = t.val_live;
  act_live = t.act_live;
  pre = λ c w. kept_if (not (c == a && w == v)) (t.pre c w);
  eff = t.eff;
  init = t.init;
  goal = t.goal;
}

abbrev pub every : ℕ → Bool
every n = true

-- the actions that stay
abbrev pub retains : Task → Step → ℕ → Bool
retains t (merge v x y a b) c = not (c == a || c == b)
retains t (generalise v a b) c = not (c == b)
retains t (variable v) c = true
retains t (action a list) c = not (c == a)
retains t (abstract v) c = not (is_free t v c)

abbrev pub task_after : Task → Step → Task
task_after t (merge v x y a b) = without (value_renamed t v x y) (retains t (merge v x y a b)) every
task_after t (generalise v a b) = without (precondition_dropped t v a) (retains t (generalise v a b)) every
task_after t (variable v) = without t every (λ w. not (w == v))
task_after t (action a list) = without t (retains t (action a list)) every
task_after t (abstract v) = without t (retains t (abstract v)) (λ w. not (w == v))

abbrev pub applied : Priced → Step → Priced
applied p s = record { task = task_after p.task s; price = λ a. cond (retains p.task s a) (p.price a) 0 }

-- a list of steps, in order
abbrev pub reduced : Priced → List Step → Priced
reduced p [] = p
reduced p (s ∷ ss) = reduced (applied p s) ss
