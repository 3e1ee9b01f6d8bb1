-- What is live in a lawful task, and what its tests say as facts.
use Rattle.std.proofs.Common.{◌≡◌, ℕ, ◌<◌, ◌≤◌, true, false, Some, None, Option, sym, refl, ap, ◌∙◌, ⊎_elim, arith}
use mathlib.Core.Path.{fun_ext}
use Rattle.std.proofs.lemmas.Bool.{eqb-true, eq-eqb, ne_eqb, and_parts, and_from, and_right, cases_Bool, cases_lt}
use Rattle.tasks.specs.Bounds.{all_below}
use Rattle.tasks.specs.Task.{Task, Lawful}
use Rattle.tasks.specs.Plans.{State, agrees, over, can_run, after, met}
use Rattle.tasks.specs.Runs.{Meets, CanRun}
use Rattle.tasks.specs.Optional.{some_or_none, none_some, some_inj}
use Rattle.tasks.proofs.Bounded.{below_at, below_from, below_fails}

-- what is set, and what is left as it was
pub over_some : (o : Option ℕ) (x y : ℕ) → o ≡ Some y → over o x ≡ y
over_some o x y e = ap (λ (q : Option ℕ). over q x) e

pub over_none : (o : Option ℕ) (x : ℕ) → o ≡ None → over o x ≡ x
over_none o x e = ap (λ (q : Option ℕ). over q x) e

pub over_both : (P : ℕ → Type 0) (o : Option ℕ) (x : ℕ) → ((y : ℕ) → o ≡ Some y → P y) → (o ≡ None → P x) → P (over o x)
over_both P None x f g = g refl
over_both P (Some y) x f g = f y refl

-- what is asked for
pub agrees_at : (o : Option ℕ) (x y : ℕ) → agrees o x ≡ true → o ≡ Some y → x ≡ y
agrees_at None x y e p = none_some None y refl p
agrees_at (Some z) x y e p = eqb-true x z e ∙ some_inj z y p

pub agrees_from : (o : Option ℕ) (x : ℕ) → ((y : ℕ) → o ≡ Some y → x ≡ y) → agrees o x ≡ true
agrees_from None x h = refl
agrees_from (Some z) x h = eq-eqb x z (h z refl)

pub agrees_not : (o : Option ℕ) (x y : ℕ) → o ≡ Some y → (x ≡ y → ⊥) → agrees o x ≡ false
agrees_not o x y e h = ap (λ (q : Option ℕ). agrees q x) e ∙ ne_eqb x y h

pub meets_below : (n : ℕ) (asked : ℕ → Option ℕ) (s : State) → Meets asked s → all_below n (λ v. agrees (asked v) (s v)) ≡ true
meets_below n asked s h = below_from n (λ v. agrees (asked v) (s v)) (λ v l. agrees_from (asked v) (s v) (h v))

pub meets_at : (n : ℕ) (asked : ℕ → Option ℕ) (s : State) → ((v x : ℕ) → asked v ≡ Some x → v < n) → all_below n (λ v. agrees (asked v) (s v)) ≡ true → Meets asked s
meets_at n asked s within h v x e = agrees_at (asked v) (s v) x (below_at n (λ w. agrees (asked w) (s w)) h v (within v x e)) e

pub can_run_from : (t : Task) (s : State) (a : ℕ) → CanRun t s a → can_run t s a ≡ true
can_run_from t s a h = and_from (t.act_live a) (all_below t.vars (λ v. agrees (t.pre a v) (s v))) h.live (meets_below t.vars (t.pre a) s h.holds)

pub cannot_run : (t : Task) (s : State) (a v : ℕ) → v < t.vars → agrees (t.pre a v) (s v) ≡ false → can_run t s a ≡ false
cannot_run t s a v l e = and_right (t.act_live a) (all_below t.vars (λ w. agrees (t.pre a w) (s w))) (below_fails t.vars (λ w. agrees (t.pre a w) (s w)) v l e)

pub met_from : (t : Task) (s : State) → Meets t.goal s → met t s ≡ true
met_from t s h = meets_below t.vars t.goal s h

module _ (t : Task) (law : Lawful t) where
  -- a variable with a live value, and so one that a condition or an effect names, is live and in range
  pub val_below : (v x : ℕ) → t.val_live v x ≡ true → v < t.vars
  val_below v x e = law.var_in v (law.val_var v x e)

  pub pre_below : (a v x : ℕ) → t.pre a v ≡ Some x → v < t.vars
  pre_below a v x e = val_below v x (law.pre_val a v x e)

  pub eff_below : (a v x : ℕ) → t.eff a v ≡ Some x → v < t.vars
  eff_below a v x e = val_below v x (law.eff_val a v x e)

  pub goal_below : (v x : ℕ) → t.goal v ≡ Some x → v < t.vars
  goal_below v x e = val_below v x (law.goal_val v x e)

  -- what is past the range is absent
  pub pre_past : (a v : ℕ) → t.vars ≤ v → t.pre a v ≡ None
  pre_past a v l = ⊎_elim (λ h. let k = pre_below a v h.0 h.1 in absurd (omega arith)) (λ h. h) (some_or_none (t.pre a v))

  pub eff_past : (a v : ℕ) → t.vars ≤ v → t.eff a v ≡ None
  eff_past a v l = ⊎_elim (λ h. let k = eff_below a v h.0 h.1 in absurd (omega arith)) (λ h. h) (some_or_none (t.eff a v))

  pub var_past : (v : ℕ) → t.vars ≤ v → t.var_live v ≡ false
  var_past v l = ⊎_elim (λ h. let k = law.var_in v h in absurd (omega arith)) (λ h. h) (cases_Bool (t.var_live v))

  pub init_past : (v : ℕ) → 32 ≤ v → t.init v ≡ 0
  init_past v l = let few = law.few_vars in law.init_none v (var_past v (omega arith))

  -- a state is known by its values in range
  pub init_by : (s : State) → ((k : ℕ) → k < 32 → s k ≡ t.init k) → ((k : ℕ) → 32 ≤ k → s k ≡ 0) → s ≡ t.init
  init_by s low high = fun_ext {f = s} {g = t.init} (λ k. ⊎_elim (low k) (λ l. high k l ∙ sym (init_past k l)) (cases_lt k 32))

  pub after_by : (s u : State) (a : ℕ) → ((k : ℕ) → k < t.vars → u k ≡ after t s a k) → ((k : ℕ) → t.vars ≤ k → u k ≡ s k) → u ≡ after t s a
  after_by s u a low high = fun_ext {f = u} {g = after t s a} (λ k. ⊎_elim (low k) (λ l. high k l ∙ sym (over_none (t.eff a k) (s k) (eff_past a k l))) (cases_lt k t.vars))

  -- the relational reading of the tests
  pub can_run_at : (s : State) (a : ℕ) → can_run t s a ≡ true → CanRun t s a
  can_run_at s a h =
      let both = and_parts (t.act_live a) (all_below t.vars (λ v. agrees (t.pre a v) (s v))) h in
      record { live = both.0; holds = meets_at t.vars (t.pre a) s (pre_below a) both.1 }

  pub met_at : (s : State) → met t s ≡ true → Meets t.goal s
  met_at s h = meets_at t.vars t.goal s goal_below h
