-- That a task is lawful can be shown in one way only.
use Rattle.std.proofs.Math.Bool.{Bool-set}
use Rattle.std.proofs.Math.Nat.{ℕ_set}
use Rattle.std.proofs.Math.Bridge.{le_prop}
use Rattle.tasks.specs.Task.{Task, Lawful}

pub lawful_prop : (t : Task) → IsProp (Lawful t)
lawful_prop t x y = λ i. record {
  few_vars = le_prop x.few_vars y.few_vars i;
  few_acts = le_prop x.few_acts y.few_acts i;
  size_some = λ v h. le_prop (x.size_some v h) (y.size_some v h) i;
  size_most = λ v. le_prop (x.size_most v) (y.size_most v) i;
  size_none = λ v h. ℕ_set _ _ (x.size_none v h) (y.size_none v h) i;
  var_in = λ v h. le_prop (x.var_in v h) (y.var_in v h) i;
  act_in = λ v h. le_prop (x.act_in v h) (y.act_in v h) i;
  val_in = λ v z h. le_prop (x.val_in v z h) (y.val_in v z h) i;
  val_var = λ v z h. Bool-set _ _ (x.val_var v z h) (y.val_var v z h) i;
  pre_act = λ a v z h. Bool-set _ _ (x.pre_act a v z h) (y.pre_act a v z h) i;
  pre_val = λ a v z h. Bool-set _ _ (x.pre_val a v z h) (y.pre_val a v z h) i;
  eff_act = λ a v z h. Bool-set _ _ (x.eff_act a v z h) (y.eff_act a v z h) i;
  eff_val = λ a v z h. Bool-set _ _ (x.eff_val a v z h) (y.eff_val a v z h) i;
  goal_val = λ v z h. Bool-set _ _ (x.goal_val v z h) (y.goal_val v z h) i;
  init_val = λ v h. Bool-set _ _ (x.init_val v h) (y.init_val v h) i;
  init_none = λ v h. ℕ_set _ _ (x.init_none v h) (y.init_none v h) i;
}
