-- Rows in which every mention of a value reads another.
use Rattle.std.proofs.Common.{sym, subst, arith, List, length, ◌<◌, get_or, set, ⊎_elim, get_or-set_same, get_or-set_other, ◌≡◌, ℕ, Bool, true, false, cond, eqb, is_some, None, Option, refl, ap₂, ◌∙◌}
use Rattle.std.proofs.lemmas.List.{get_or_past}
use Rattle.std.proofs.lemmas.Bool.{cases_lt, cases_eq, eq-eqb, ne_eqb}
use Rattle.reductions.specs.Applying.{rename_to, value_renamed}
use Rattle.tables.specs.declared.rows.Variable.{Variable}
use Rattle.tables.specs.declared.rows.Action.{Action}
use Rattle.tables.specs.Tabled.{absent, value_of, required, set_by, task_of, priced_of, at_prices}
use Rattle.tables.specs.Renamed.{VariableRenamed, ActionRenamed}
use Rattle.tables.proofs.Alike.{alike}
use Rattle.tables.proofs.Retiring.{and_true}

-- a mask and a new name go in either order
masked : (x y : ℕ) (live here : Bool) (o : Option ℕ) → cond live (cond here (rename_to x y o) o) None ≡ cond here (rename_to x y (cond live o None)) (cond live o None)
masked x y true here o = refl
masked x y false true o = refl
masked x y false false o = refl

module _ (n m v x y : ℕ) (old new : ℕ → Variable) (before after : ℕ → Option Action) where
  pub renamed_rows : ((w : ℕ) → VariableRenamed (eqb w v) x y (old w) (new w)) → ((a : ℕ) → ActionRenamed v x y (before a) (after a)) → priced_of n m new after ≡ at_prices (priced_of n m old before) (value_renamed (task_of n m old before) v x y)
  renamed_rows h k = alike (priced_of n m new after) (at_prices (priced_of n m old before) (value_renamed (task_of n m old before) v x y)) (record {
    vars = refl;
    acts = refl;
    size = λ w. (h w).size;
    var_live = λ w. (h w).live;
    val_live = λ w. (h w).values;
    act_live = λ a. (k a).live;
    pre = λ a w. ap₂ (λ (b : Bool) (o : Option ℕ). cond b o None) (h w).live ((k a).preconditions w) ∙ masked x y (is_some (old w).live) (eqb w v) (required (before a) w);
    eff = λ a w. ap₂ (λ (b : Bool) (o : Option ℕ). cond b o None) (h w).live ((k a).effects w) ∙ masked x y (is_some (old w).live) (eqb w v) (set_by (before a) w);
    init = λ w. (h w).initial;
    goal = λ w. (h w).goal;
  }) (λ a. ap₂ (λ (b : Bool) (k : ℕ). cond b k 0) (k a).live (k a).price)

-- a row that is left alone
pub left_alone : (x y : ℕ) (row : Variable) → VariableRenamed false x y row row
left_alone x y row = record {
  size = refl;
  live = refl;
  values = λ z. and_true (value_of row.live z);
  initial = refl;
  goal = refl;
}

-- one row of the variables is renamed
pub one_renamed : (xs : List Variable) (i v x y : ℕ) (row : Variable) → i ≡ v → i < length xs → VariableRenamed true x y (get_or xs i absent) row → (w : ℕ) → VariableRenamed (eqb w v) x y (get_or xs w absent) (get_or (set xs i row) w absent)
one_renamed xs i v x y row is within h w =
    ⊎_elim
    (λ same. subst (λ (u : ℕ). VariableRenamed (eqb u v) x y (get_or xs u absent) (get_or (set xs i row) u absent)) (sym same)
    (subst (λ (b : Bool). VariableRenamed b x y (get_or xs i absent) (get_or (set xs i row) i absent)) (sym (eq-eqb i v is))
    (subst (VariableRenamed true x y (get_or xs i absent)) (sym (get_or-set_same xs i row absent within)) h)))
    (λ apart. subst (λ (b : Bool). VariableRenamed b x y (get_or xs w absent) (get_or (set xs i row) w absent)) (sym (ne_eqb w v (λ e. apart (e ∙ sym is))))
    (subst (VariableRenamed false x y (get_or xs w absent)) (sym (get_or-set_other xs i w row absent apart)) (left_alone x y (get_or xs w absent))))
    (cases_eq w i)

-- nothing stays nothing
pub nothing_renamed : (x y : ℕ) (b : Bool) (o : Option ℕ) → o ≡ None → cond b (rename_to x y o) o ≡ None
nothing_renamed x y b o e = subst (λ (k : Option ℕ). cond b (rename_to x y k) k ≡ None) (sym e) (both b)
  where
    both : (b : Bool) → cond b (rename_to x y None) None ≡ None
    both true = refl
    both false = refl

pub none_renamed : (v x y : ℕ) → ActionRenamed v x y None None
none_renamed v x y = record {
  live = refl;
  price = refl;
  preconditions = λ w. sym (nothing_renamed x y (eqb w v) None refl);
  effects = λ w. sym (nothing_renamed x y (eqb w v) None refl);
}

-- the rows of the actions are renamed, each of them
pub every_renamed : (v x y : ℕ) (before after : List (Option Action)) → length before ≡ 512 → length after ≡ 512 → ((a : ℕ) → a < 512 → ActionRenamed v x y (get_or before a None) (get_or after a None)) → (a : ℕ) → ActionRenamed v x y (get_or before a None) (get_or after a None)
every_renamed v x y before after long also h a =
    ⊎_elim (h a)
    (λ l. subst (λ (o : Option Action). ActionRenamed v x y o (get_or after a None)) (sym (get_or_past before a None (omega arith)))
    (subst (ActionRenamed v x y None) (sym (get_or_past after a None (omega arith))) (none_renamed v x y)))
    (cases_lt a 512)
