-- An accepted file is a lawful task.
use Rattle.std.specs.Prelude.{◌≡◌, ℕ, ◌+◌, ◌<◌, ◌≤◌, true, false, cond, List, Some, ◌==◌, nat_lt}
use Rattle.std.proofs.Common.{sym, subst, ◌∙◌, ⊎_elim, arith}
use Rattle.std.proofs.lemmas.Bool.{ltb-true, lt-ltb, le-ltb, eqb-true, and_parts, cases_Bool, cond-true, cond-false, cond_both}
use Rattle.tasks.specs.Task.{Lawful}
use Rattle.tasks.specs.Optional.{guard_some, chosen}
use Rattle.packed.specs.Records.{values_fit, size_of, initial_of, goal_bit, goal_value, goal_of, precondition_count, effect_count, fact_variable, fact_value}
use Rattle.packed.specs.Decoding.{fact_for, variables, actions, variable_record, size, effects_at, action_at, action_record, fact_record, looked_up, preconditions, effects, decoded_task}
use Rattle.tasks.proofs.Firsts.{some_found}
use Rattle.packed.specs.Accepted.{AcceptedFact, Accepted}

pub size_of_most : (n : ℕ) → size_of n ≤ 64
size_of_most n = omega arith

pub initial_fits : (n : ℕ) → values_fit n ≡ true → initial_of n < size_of n
initial_fits n h = ltb-true (initial_of n) (size_of n) (and_parts (nat_lt (initial_of n) (size_of n)) _ h).0

pub goal_fits : (n x : ℕ) → values_fit n ≡ true → goal_of n ≡ Some x → x < size_of n
goal_fits n x h e =
    let rest = (and_parts (nat_lt (initial_of n) (size_of n)) (cond (goal_bit n == 1) (nat_lt (goal_value n) (size_of n)) (goal_value n == 0)) h).1 in
    let both = chosen (goal_bit n == 1) (goal_value n) x e in
    let fit = ltb-true (goal_value n) (size_of n) (sym (cond-true (goal_bit n == 1) (nat_lt (goal_value n) (size_of n)) (goal_value n == 0) both.0) ∙ rest) in
    subst (λ (y : ℕ). y < size_of n) both.1 fit

pub fact_for_some : (n v x : ℕ) → fact_for v n ≡ Some x → (fact_variable n ≡ v) × (fact_value n ≡ x)
fact_for_some n v x e = let both = chosen (fact_variable n == v) (fact_value n) x e in (eqb-true (fact_variable n) v both.0, both.1)

-- what facts give to a variable is one of its values
pub looked_up_fits : (bs : List ℕ) (place n : ℕ) → ((k : ℕ) → k < n → AcceptedFact bs place k) → (v x : ℕ) → looked_up bs place n v ≡ Some x → x < size bs v
looked_up_fits bs place n h v x e =
    let found = some_found n (λ k. fact_for v (fact_record bs place k)) x e in
    let both = fact_for_some (fact_record bs place found.0) v x found.2 in
    moved (fact_variable (fact_record bs place found.0)) (fact_value (fact_record bs place found.0)) both.0 both.1 (h found.0 found.1).value
  where
    moved : (w y : ℕ) → w ≡ v → y ≡ x → y < size bs w → x < size bs v
    moved w y p q l = subst (λ (k : ℕ). x < size bs k) p (subst (λ (k : ℕ). k < size bs w) q l)

pub size_in : (bs : List ℕ) (v : ℕ) → nat_lt v (variables bs) ≡ true → size bs v ≡ size_of (variable_record bs v)
size_in bs v e = cond-true (nat_lt v (variables bs)) (size_of (variable_record bs v)) 0 e

pub size_out : (bs : List ℕ) (v : ℕ) → nat_lt v (variables bs) ≡ false → size bs v ≡ 0
size_out bs v e = cond-false (nat_lt v (variables bs)) (size_of (variable_record bs v)) 0 e

-- the sizes of two numbers that are moved along equations
lt_moved : (x k y m : ℕ) → y ≡ x → m ≡ k → x < k → y < m
lt_moved x k y m p q l = omega arith

size_some_at : (n m : ℕ) → m ≡ size_of n → 1 ≤ m
size_some_at n m e = omega arith

pub lawful_decoded : (bs : List ℕ) → Accepted bs → Lawful (decoded_task bs)
lawful_decoded bs h = record {
  few_vars = h.few_variables;
  few_acts = h.few_actions;
  size_some = λ v l. size_some_at (variable_record bs v) (size bs v) (size_in bs v (lt-ltb v (variables bs) l));
  size_most = λ v. cond_both (nat_lt v (variables bs)) (size_of (variable_record bs v)) 0 (λ k. k ≤ 64) (λ e. size_of_most (variable_record bs v)) (λ e. omega arith);
  size_none = λ v l. size_out bs v (le-ltb v (variables bs) l);
  var_in = λ v e. ltb-true v (variables bs) e;
  act_in = λ a e. ltb-true a (actions bs) e;
  val_in = λ v x e. ltb-true x (size bs v) e;
  val_var = λ v x e. var v x (ltb-true x (size bs v) e);
  pre_act = λ a v x e. (guard_some (nat_lt a (actions bs)) (preconditions bs a v) x e).0;
  pre_val = λ a v x e. pre a v x (guard_some (nat_lt a (actions bs)) (preconditions bs a v) x e);
  eff_act = λ a v x e. (guard_some (nat_lt a (actions bs)) (effects bs a v) x e).0;
  eff_val = λ a v x e. eff a v x (guard_some (nat_lt a (actions bs)) (effects bs a v) x e);
  goal_val = λ v x e. goal v x (guard_some (nat_lt v (variables bs)) (goal_of (variable_record bs v)) x e);
  init_val = init;
  init_none = λ v e. cond-false (nat_lt v (variables bs)) (initial_of (variable_record bs v)) 0 e;
}
  where
    var : (v x : ℕ) → x < size bs v → nat_lt v (variables bs) ≡ true
    var v x l = ⊎_elim (λ e. e) (λ e. never (size bs v) (size_out bs v e) l) (cases_Bool (nat_lt v (variables bs)))
      where
        never : {A : Type 0} (m : ℕ) → m ≡ 0 → x < m → A
        never m e l = absurd (omega arith)

    pre : (a v x : ℕ) → (nat_lt a (actions bs) ≡ true) × (preconditions bs a v ≡ Some x) → nat_lt x (size bs v) ≡ true
    pre a v x both =
        lt-ltb x (size bs v) (looked_up_fits bs (action_at bs a + 4) (precondition_count (action_record bs a)) (h.action a (ltb-true a (actions bs) both.0)).preconditions v x both.1)

    eff : (a v x : ℕ) → (nat_lt a (actions bs) ≡ true) × (effects bs a v ≡ Some x) → nat_lt x (size bs v) ≡ true
    eff a v x both =
        lt-ltb x (size bs v) (looked_up_fits bs (effects_at bs (action_at bs a)) (effect_count (action_record bs a)) (h.action a (ltb-true a (actions bs) both.0)).effects v x both.1)

    goal : (v x : ℕ) → (nat_lt v (variables bs) ≡ true) × (goal_of (variable_record bs v) ≡ Some x) → nat_lt x (size bs v) ≡ true
    goal v x both =
        lt-ltb x (size bs v) (subst (λ (k : ℕ). x < k) (sym (size_in bs v both.0)) (goal_fits (variable_record bs v) x (h.variable v (ltb-true v (variables bs) both.0)).fits both.1))

    init : (v : ℕ) → nat_lt v (variables bs) ≡ true → nat_lt (cond (nat_lt v (variables bs)) (initial_of (variable_record bs v)) 0) (size bs v) ≡ true
    init v e =
        lt-ltb _ (size bs v) (lt_moved (initial_of (variable_record bs v)) (size_of (variable_record bs v)) _ (size bs v) (cond-true (nat_lt v (variables bs)) (initial_of (variable_record bs v)) 0 e) (size_in bs v e) (initial_fits (variable_record bs v) (h.variable v (ltb-true v (variables bs) e)).fits))
