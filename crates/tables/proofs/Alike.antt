-- Priced tasks that answer alike are equal.
use Rattle.std.proofs.Common.{◌≡◌, ℕ}
use Rattle.tasks.specs.Task.{Task, Priced}

-- each answer, at every number
pub record Alike (t u : Task) : Type 0 where
  pub vars : t.vars ≡ u.vars
  pub acts : t.acts ≡ u.acts
  pub size : (v : ℕ) → t.size v ≡ u.size v
  pub var_live : (v : ℕ) → t.var_live v ≡ u.var_live v
  pub val_live : (v x : ℕ) → t.val_live v x ≡ u.val_live v x
  pub act_live : (a : ℕ) → t.act_live a ≡ u.act_live a
  pub pre : (a v : ℕ) → t.pre a v ≡ u.pre a v
  pub eff : (a v : ℕ) → t.eff a v ≡ u.eff a v
  pub init : (v : ℕ) → t.init v ≡ u.init v
  pub goal : (v : ℕ) → t.goal v ≡ u.goal v

pub alike : (p q : Priced) → Alike p.task q.task → ((a : ℕ) → p.price a ≡ q.price a) → p ≡ q
alike p q h price = λ i. record {
  task = record {
    vars = h.vars i;
    acts = h.acts i;
    size = λ v. h.size v i;
    var_live = λ v. h.var_live v i;
    val_live = λ v x. h.val_live v x i;
    act_live = λ a. h.act_live a i;
    pre = λ a v. h.pre a v i;
    eff = λ a v. h.eff a v i;
    init = λ v. h.init v i;
    goal = λ v. h.goal v i;
  };
  price = λ a. price a i;
}
