-- What a planning task means: the table of its answers.
use Rattle.std.specs.Prelude.{◌≡◌, ℕ, ◌<◌, ◌≤◌, Bool, true, false, cond, Some, Option}

-- Variables, values and actions go by number, from 0. Each is live or retired; what is retired keeps its number.
pub record Task : Type 0 where
  pub vars : ℕ
  pub acts : ℕ
  -- how many values a variable has, live and retired
  pub size : ℕ → ℕ
  pub var_live : ℕ → Bool
  -- of a variable, and its value
  pub val_live : ℕ → ℕ → Bool
  pub act_live : ℕ → Bool
  -- the value that an action requires of a variable, and the one that it sets
  pub pre : ℕ → ℕ → Option ℕ
  pub eff : ℕ → ℕ → Option ℕ
  pub init : ℕ → ℕ
  pub goal : ℕ → Option ℕ

-- What every task shows: the limits, that what is out of range or not live answers as absent, and that every value named is live.
pub record Lawful (t : Task) : Type 0 where
  pub few_vars : t.vars ≤ 32
  pub few_acts : t.acts ≤ 512
  pub size_some : (v : ℕ) → v < t.vars → 1 ≤ t.size v
  pub size_most : (v : ℕ) → t.size v ≤ 64
  pub size_none : (v : ℕ) → t.vars ≤ v → t.size v ≡ 0
  pub var_in : (v : ℕ) → t.var_live v ≡ true → v < t.vars
  pub act_in : (a : ℕ) → t.act_live a ≡ true → a < t.acts
  pub val_in : (v x : ℕ) → t.val_live v x ≡ true → x < t.size v
  pub val_var : (v x : ℕ) → t.val_live v x ≡ true → t.var_live v ≡ true
  pub pre_act : (a v x : ℕ) → t.pre a v ≡ Some x → t.act_live a ≡ true
  pub pre_val : (a v x : ℕ) → t.pre a v ≡ Some x → t.val_live v x ≡ true
  pub eff_act : (a v x : ℕ) → t.eff a v ≡ Some x → t.act_live a ≡ true
  pub eff_val : (a v x : ℕ) → t.eff a v ≡ Some x → t.val_live v x ≡ true
  pub goal_val : (v x : ℕ) → t.goal v ≡ Some x → t.val_live v x ≡ true
  pub init_val : (v : ℕ) → t.var_live v ≡ true → t.val_live v (t.init v) ≡ true
  pub init_none : (v : ℕ) → t.var_live v ≡ false → t.init v ≡ 0

-- A priced task answers a price for each action too.
pub record Priced : Type 0 where
  pub task : Task
  pub price : ℕ → ℕ

-- A task at the prices of a tariff, of which those of actions that are not live do not count: such an action costs 0.
abbrev pub priced : Task → (ℕ → ℕ) → Priced
priced t tariff = record { task = t; price = λ a. cond (t.act_live a) (tariff a) 0 }
