-- Rows in which an action no longer requires a value of a variable.
use Rattle.std.proofs.Common.{◌≡◌, ℕ, Bool, true, false, cond, not, ◌&&◌, eqb, is_some, get_or, set, Some, None, Option, refl, sym, ap, ◌∙◌}
use mathlib.Core.Path.{fun_ext}
use Rattle.reductions.specs.Applying.{precondition_dropped}
use Rattle.tables.specs.declared.rows.Action.{Action}
use Rattle.tables.specs.declared.rows.Rows.{Rows}
use Rattle.tables.specs.Tabled.{variable_in, action_in, required, set_by, price_of, priced_of, task_in, tabled, at_prices}
use Rattle.tables.proofs.Alike.{alike}
use Rattle.tables.proofs.Writes.{changed}

-- no value of v is required
drop_at : ℕ → Option Action → Option Action
drop_at v None = None
drop_at v (Some a) = Some (record { price = a.price; preconditions = set a.preconditions v None; effects = a.effects })

is_dropped : (v : ℕ) (b : Bool) (o : Option Action) → is_some (cond b (drop_at v o) o) ≡ is_some o
unfolding drop_at
is_dropped v true None = refl
is_dropped v true (Some a) = refl
is_dropped v false o = refl

effect_dropped : (v : ℕ) (b : Bool) (o : Option Action) (w : ℕ) → set_by (cond b (drop_at v o) o) w ≡ set_by o w
unfolding drop_at
effect_dropped v true None w = refl
effect_dropped v true (Some a) w = refl
effect_dropped v false o w = refl

price_dropped : (v : ℕ) (b : Bool) (o : Option Action) → cond (is_some (cond b (drop_at v o) o)) (price_of (cond b (drop_at v o) o)) 0 ≡ cond (is_some o) (price_of o) 0
unfolding drop_at
price_dropped v true None = refl
price_dropped v true (Some a) = refl
price_dropped v false o = refl

masked : (live here : Bool) (o : Option ℕ) → cond live (cond here None o) None ≡ cond (not here) (cond live o None) None
masked true here o = turned here
  where
    turned : (b : Bool) → cond b None o ≡ cond (not b) o None
    turned true = refl
    turned false = refl
masked false true o = refl
masked false false o = refl

pre_dropped : (live : Bool) (v : ℕ) (b : Bool) (o : Option Action) (w : ℕ) → cond live (required (cond b (drop_at v o) o) w) None ≡ cond (not (b && eqb w v)) (cond live (required o w) None) None
unfolding drop_at
pre_dropped live v true None w = nothing live (eqb w v)
  where
    nothing : (live here : Bool) → cond live None None ≡ cond {A = Option ℕ} (not here) (cond live None None) None
    nothing true true = refl
    nothing true false = refl
    nothing false true = refl
    nothing false false = refl
pre_dropped live v true (Some a) w = ap (λ (o : Option ℕ). cond live o None) (changed (λ (o : Option ℕ). None) None refl a.preconditions v w) ∙ masked live (eqb w v) (get_or a.preconditions w None)
pre_dropped live v false o w = refl

abbrev changes : Rows → ℕ → ℕ → ℕ → Option Action
changes r i v c = cond (eqb c i) (drop_at v (action_in r c)) (action_in r c)

pub dropped : (r : Rows) (i v : ℕ) (row : Action) → action_in r i ≡ Some row
    → priced_of r.variable_count r.action_count (variable_in r) (λ c. get_or (set r.actions i (Some (record { price = row.price; preconditions = set row.preconditions v None; effects = row.effects }))) c None)
    ≡ at_prices (tabled r) (precondition_dropped (task_in r) v i)
unfolding drop_at
dropped r i v row is =
    ap (priced_of r.variable_count r.action_count (variable_in r)) (fun_ext (λ c. ap (λ (o : Option Action). get_or (set r.actions i o) c None) (sym (ap (drop_at v) is)) ∙ changed (drop_at v) None refl r.actions i c))
    ∙ alike (priced_of r.variable_count r.action_count (variable_in r) (changes r i v)) (at_prices (tabled r) (precondition_dropped (task_in r) v i)) (record {
      vars = refl;
      acts = refl;
      size = λ w. refl;
      var_live = λ w. refl;
      val_live = λ w x. refl;
      act_live = λ c. is_dropped v (eqb c i) (action_in r c);
      pre = λ c w. pre_dropped (is_some (variable_in r w).live) v (eqb c i) (action_in r c) w;
      eff = λ c w. ap (λ (o : Option ℕ). cond (is_some (variable_in r w).live) o None) (effect_dropped v (eqb c i) (action_in r c) w);
      init = λ w. refl;
      goal = λ w. refl;
    }) (λ c. price_dropped v (eqb c i) (action_in r c))
