-- Rows that say what a task answers are the task.
use Rattle.std.proofs.Common.{replicate, get_or, ◌+◌, List, set, subst, length-set, get_or-set_other, get_or-set_same, ◌≡◌, ℕ, ◌<◌, ◌≤◌, Bool, true, false, cond, is_some, length, Some, None, Option, refl, sym, ◌∙◌, ⊎_elim, arith}
use Rattle.std.proofs.lemmas.List.{get_or_past, get_or-replicate, length-replicate}
use Rattle.std.proofs.lemmas.Bool.{cases_eq, both_ways, cases_Bool, cases_lt, cond-false}
use Rattle.tasks.specs.Task.{Task, Lawful, priced}
use Rattle.tasks.specs.Optional.{some_or_none}
use Rattle.tasks.proofs.Lawful.{var_past}
use Rattle.tables.specs.declared.rows.Action.{Action}
use Rattle.tables.specs.declared.rows.Rows.{Rows}
use Rattle.tables.specs.Copied.{VariableCopied, ActionCopied}
use Rattle.tables.specs.Tabled.{absent, variable_in, action_in, required, set_by, price_of, tabled}
use Rattle.tables.proofs.Alike.{alike}

-- the rows of the actions once those below n are copied; the others are still nothing
pub record ActionsCopied (t : Task) (tariff : ℕ → ℕ) (rows : List (Option Action)) (n : ℕ) : Type 0 where
  pub long : length rows ≡ 512
  pub copied_below : (a : ℕ) → a < n → ActionCopied (priced t tariff) a (get_or rows a None)
  pub nothing_else : (a : ℕ) → n ≤ a → get_or rows a None ≡ None

module _ (t : Task) (tariff : ℕ → ℕ) where
  pub none_copied : ActionsCopied t tariff (replicate 512 None) 0
  none_copied =
      let none : Option Action = None in
      let long : length (replicate 512 none) ≡ 512 = length-replicate 512 none in
      record {
        long = long;
        copied_below = λ a l. absurd (omega arith);
        nothing_else = λ a l. ⊎_elim (get_or-replicate 512 a none none) (λ past. get_or_past (replicate 512 none) a none (omega arith)) (cases_lt a 512);
      }

  pub one_copied : (rows : List (Option Action)) (i n : ℕ) (row : Option Action) → i ≡ n → n < 512 → ActionsCopied t tariff rows n → ActionCopied (priced t tariff) n row → ActionsCopied t tariff (set rows i row) (n + 1)
  one_copied rows i n row is within h here = record {
    long = length-set rows i row ∙ h.long;
    copied_below = λ a l. ⊎_elim
        (λ same. subst (λ (k : ℕ). ActionCopied (priced t tariff) k (get_or (set rows i row) k None)) (sym same)
        (subst (ActionCopied (priced t tariff) i) (sym (get_or-set_same rows i row None (omega (arith, h.long)))) (subst (λ (k : ℕ). ActionCopied (priced t tariff) k row) (sym is) here)))
        (λ apart. subst (ActionCopied (priced t tariff) a) (sym (get_or-set_other rows i a row None apart)) (h.copied_below a (omega arith)))
        (cases_eq a i);
    nothing_else = λ a l. get_or-set_other rows i a row None (λ e. omega arith) ∙ h.nothing_else a (omega arith);
  }

module _ (t : Task) (law : Lawful t) where
  -- nothing is said of what is not live
  none_unless : (o : Option ℕ) (live : Bool) → live ≡ false → ((x : ℕ) → o ≡ Some x → live ≡ true) → None ≡ o
  none_unless o live dead named = ⊎_elim (λ s. absurd (both_ways live dead (named s.0 s.1))) sym (some_or_none o)

  pub dead_variable : (v size : ℕ) → t.var_live v ≡ false → size ≡ t.size v → VariableCopied t v (record { size = size; live = None })
  dead_variable v size dead is = record {
    size = is;
    live = sym dead;
    values = λ x. ⊎_elim (λ e. absurd (both_ways (t.var_live v) dead (law.val_var v x e))) sym (cases_Bool (t.val_live v x));
    initial = sym (law.init_none v dead);
    goal = none_unless (t.goal v) (t.var_live v) dead (λ x e. law.val_var v x (law.goal_val v x e));
  }

  pub dead_action : (tariff : ℕ → ℕ) (a : ℕ) → t.act_live a ≡ false → ActionCopied (priced t tariff) a None
  dead_action tariff a dead = record {
    live = sym dead;
    price = sym (cond-false (t.act_live a) (tariff a) 0 dead);
    preconditions = λ v. none_unless (t.pre a v) (t.act_live a) dead (law.pre_act a v);
    effects = λ v. none_unless (t.eff a v) (t.act_live a) dead (law.eff_act a v);
  }

  -- a variable has 64 values at most
  pub value_past : (v x : ℕ) → 64 ≤ x → t.val_live v x ≡ false
  value_past v x l = ⊎_elim (λ e. absurd (omega (arith, law.val_in v x e, law.size_most v))) (λ e. e) (cases_Bool (t.val_live v x))

  act_past : (a : ℕ) → t.acts ≤ a → t.act_live a ≡ false
  act_past a l = ⊎_elim (λ e. absurd (omega (arith, law.act_in a e))) (λ e. e) (cases_Bool (t.act_live a))

  module _ (tariff : ℕ → ℕ) where
    pub all_copied : (rows : List (Option Action)) (n : ℕ) → t.acts ≤ n → ActionsCopied t tariff rows n → (a : ℕ) → ActionCopied (priced t tariff) a (get_or rows a None)
    all_copied rows n l h a =
        ⊎_elim (h.copied_below a)
        (λ past. subst (ActionCopied (priced t tariff) a) (sym (h.nothing_else a past)) (dead_action tariff a (act_past a (omega arith))))
        (cases_lt a n)

  module _ (tariff : ℕ → ℕ) (r : Rows) where
    every_variable : length r.variables ≡ 32 → ((v : ℕ) → v < 32 → VariableCopied t v (variable_in r v)) → (v : ℕ) → VariableCopied t v (variable_in r v)
    every_variable long h v =
        ⊎_elim (h v) (λ l. rw (get_or_past r.variables v absent (omega arith)) (dead_variable v 0 (var_past t law v (omega (arith, law.few_vars))) (sym (law.size_none v (omega (arith, law.few_vars)))))) (cases_lt v 32)

    -- what a live action says of a variable that is not live is nothing
    said : (o named : Option ℕ) (live : Bool) (v : ℕ) → live ≡ t.var_live v → o ≡ named → ((x : ℕ) → named ≡ Some x → t.val_live v x ≡ true) → cond live o None ≡ named
    said o named live v is same value = go (t.var_live v) refl
      where
        go : (b : Bool) → t.var_live v ≡ b → cond live o None ≡ named
        go true e = rw (is ∙ e) same
        go false e = rw (is ∙ e) (none_unless named (t.var_live v) e (λ x k. law.val_var v x (value x k)))

    pub copied : r.variable_count ≡ t.vars → r.action_count ≡ t.acts → length r.variables ≡ 32
        → ((v : ℕ) → v < 32 → VariableCopied t v (variable_in r v))
        → ((a : ℕ) → ActionCopied (priced t tariff) a (action_in r a))
        → tabled r ≡ priced t tariff
    copied vars acts variables h ha =
        let hv = every_variable variables h in
        alike (tabled r) (priced t tariff) (record {
          vars = vars;
          acts = acts;
          size = λ v. (hv v).size;
          var_live = λ v. (hv v).live;
          val_live = λ v. (hv v).values;
          act_live = λ a. (ha a).live;
          pre = λ a v. said (required (action_in r a) v) (t.pre a v) (is_some (variable_in r v).live) v (hv v).live ((ha a).preconditions v) (law.pre_val a v);
          eff = λ a v. said (set_by (action_in r a) v) (t.eff a v) (is_some (variable_in r v).live) v (hv v).live ((ha a).effects v) (law.eff_val a v);
          init = λ v. (hv v).initial;
          goal = λ v. (hv v).goal;
        }) (λ a. priced_once (action_in r a) (t.act_live a) (tariff a) (ha a).live (ha a).price)
      where
        priced_once : (o : Option Action) (live : Bool) (price : ℕ) → is_some o ≡ live → price_of o ≡ cond live price 0 → cond (is_some o) (price_of o) 0 ≡ cond live price 0
        priced_once None live price is e = e
        priced_once (Some a) live price is e = e
