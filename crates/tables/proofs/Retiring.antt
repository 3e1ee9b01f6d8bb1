-- Rows of which some are retired.
use Rattle.std.proofs.Common.{◌+◌, ◌≤◌, ◌||◌, sym, ap₂, ◌≡◌, ℕ, Bool, true, false, cond, not, ◌&&◌, eqb, ltb, List, length, is_some, get_or, set, Some, None, Option, refl, ap, ◌∙◌, arith}
use Rattle.std.proofs.lemmas.List.{get_or_past}
use Rattle.std.proofs.lemmas.Bool.Decides.{nat_tests}
use mathlib.Core.Path.{fun_ext}
use Rattle.tasks.specs.Task.{Priced}
use Rattle.detours.specs.Free.{is_free}
use Rattle.reductions.specs.Applying.{every}
use Rattle.tables.specs.declared.rows.Domain.{Domain}
use Rattle.tables.specs.declared.rows.Variable.{Variable}
use Rattle.tables.specs.declared.rows.Action.{Action}
use Rattle.tables.specs.declared.rows.Rows.{Rows}
use Rattle.tables.specs.Tabled.{absent, variable_in, action_in, value_of, initial_of, goal_of, required, set_by, price_of, priced_of, task_in, tabled, retired}
use Rattle.tables.proofs.Alike.{alike}
use Rattle.tables.proofs.Writes.{changed}

pub and_true : (b : Bool) → b ≡ (b && true)
and_true true = refl
and_true false = refl

and_false : (b : Bool) → false ≡ (b && false)
and_false true = refl
and_false false = refl

is_kept : {A : Type 0} (o : Option A) (b : Bool) → is_some (cond b o None) ≡ (is_some o && b)
is_kept None true = refl
is_kept None false = refl
is_kept (Some x) true = refl
is_kept (Some x) false = refl

value_kept : (o : Option Domain) (b : Bool) (x : ℕ) → value_of (cond b o None) x ≡ (value_of o x && b)
value_kept o true x = and_true (value_of o x)
value_kept o false x = and_false (value_of o x)

initial_kept : (o : Option Domain) (b : Bool) → initial_of (cond b o None) ≡ cond b (initial_of o) 0
initial_kept o true = refl
initial_kept o false = refl

goal_kept : (o : Option Domain) (b : Bool) → goal_of (cond b o None) ≡ cond b (goal_of o) None
goal_kept o true = refl
goal_kept o false = refl

price_kept : (o : Option Action) (b : Bool) → cond (is_some (cond b o None)) (price_of (cond b o None)) 0 ≡ cond b (cond (is_some o) (price_of o) 0) 0
price_kept o true = refl
price_kept o false = refl

-- what an action says of a variable, of which neither, one or both are retired
said_kept : (said : Option Action → Option ℕ) → said None ≡ None → (live : Option Domain) (o : Option Action) (p q : Bool) → cond (is_some (cond q live None)) (said (cond p o None)) None ≡ cond (p && q) (cond (is_some live) (said o) None) None
said_kept said none live o true true = refl
said_kept said none None o false true = refl
said_kept said none (Some d) o false true = none
said_kept said none live o true false = refl
said_kept said none live o false false = refl

pub nothing_kept : {A : Type 0} (b : Bool) (o : Option A) → o ≡ None → cond b o None ≡ None
nothing_kept true o e = e
nothing_kept false o e = refl

module _ (n m : ℕ) (variable : ℕ → Variable) (action : ℕ → Option Action) (act var : ℕ → Bool) where
  kept_variables : ℕ → Variable
  kept_variables v = record { size = (variable v).size; live = cond (var v) (variable v).live None }

  kept_actions : ℕ → Option Action
  kept_actions a = cond (act a) (action a) None

  kept_is : priced_of n m kept_variables kept_actions ≡ retired (priced_of n m variable action) act var
  unfolding kept_variables kept_actions
  kept_is = alike (priced_of n m kept_variables kept_actions) (retired (priced_of n m variable action) act var) (record {
    vars = refl;
    acts = refl;
    size = λ v. refl;
    var_live = λ v. is_kept (variable v).live (var v);
    val_live = λ v x. value_kept (variable v).live (var v) x;
    act_live = λ a. is_kept (action a) (act a);
    pre = λ a v. said_kept (λ o. required o v) refl (variable v).live (action a) (act a) (var v);
    eff = λ a v. said_kept (λ o. set_by o v) refl (variable v).live (action a) (act a) (var v);
    init = λ v. initial_kept (variable v).live (var v);
    goal = λ v. goal_kept (variable v).live (var v);
  }) (λ a. price_kept (action a) (act a))

  pub retired_as : (variables : ℕ → Variable) (actions : ℕ → Option Action)
      → ((v : ℕ) → variables v ≡ record { size = (variable v).size; live = cond (var v) (variable v).live None })
      → ((a : ℕ) → actions a ≡ cond (act a) (action a) None)
      → priced_of n m variables actions ≡ retired (priced_of n m variable action) act var
  unfolding kept_variables kept_actions
  retired_as variables actions h k =
      ap (λ (f : ℕ → Variable). priced_of n m f actions) (fun_ext h) ∙ ap (λ (f : ℕ → Option Action). priced_of n m kept_variables f) (fun_ext k) ∙ kept_is

-- the variable i of the rows is retired
pub variable_retired : (r : Rows) (i : ℕ) → priced_of r.variable_count r.action_count (λ w. get_or (set r.variables i (record { size = (variable_in r i).size; live = None })) w absent) (action_in r) ≡ retired (tabled r) every (λ w. not (eqb w i))
variable_retired r i =
    retired_as r.variable_count r.action_count (variable_in r) (action_in r) every (λ w. not (eqb w i)) _ _
    (λ w. changed (λ (row : Variable). record { size = row.size; live = None }) absent refl r.variables i w ∙ kept (eqb w i) (variable_in r w))
    (λ a. refl)
  where
    kept : (b : Bool) (row : Variable) → ◌≡◌ {A = Variable} (cond b (record { size = row.size; live = None }) row) (record { size = row.size; live = cond (not b) row.live None })
    kept true row = refl
    kept false row = refl

and_assoc : (a b c : Bool) → ((a && b) && c) ≡ (a && (b && c))
and_assoc true b c = refl
and_assoc false b c = refl

cond_twice : {A : Type 0} (b c : Bool) (x d : A) → cond c (cond b x d) d ≡ cond (b && c) x d
cond_twice true c x d = refl
cond_twice false true x d = refl
cond_twice false false x d = refl

and_swap : (a b c d : Bool) → ((a && b) && (c && d)) ≡ ((a && c) && (b && d))
and_swap true true c d = and_swap_true c d
  where
    and_swap_true : (c d : Bool) → (c && d) ≡ ((true && c) && (true && d))
    and_swap_true true d = refl
    and_swap_true false d = refl
and_swap true false true d = refl
and_swap true false false d = refl
and_swap false b c d = refl

-- what fails one of two tests is retired
pub retired_twice : (p : Priced) (f g h k : ℕ → Bool) → retired (retired p f g) h k ≡ retired p (λ a. f a && h a) (λ v. g v && k v)
retired_twice p f g h k = alike (retired (retired p f g) h k) (retired p (λ a. f a && h a) (λ v. g v && k v)) (record {
  vars = refl;
  acts = refl;
  size = λ v. refl;
  var_live = λ v. and_assoc (p.task.var_live v) (g v) (k v);
  val_live = λ v x. and_assoc (p.task.val_live v x) (g v) (k v);
  act_live = λ a. and_assoc (p.task.act_live a) (f a) (h a);
  pre = λ a v. both a v (p.task.pre a v);
  eff = λ a v. both a v (p.task.eff a v);
  init = λ v. cond_twice (g v) (k v) (p.task.init v) 0;
  goal = λ v. cond_twice (g v) (k v) (p.task.goal v) None;
}) (λ a. cond_twice (f a) (h a) (p.price a) 0)
  where
    both : (a v : ℕ) (o : Option ℕ) → cond (h a && k v) (cond (f a && g v) o None) None ≡ cond ((f a && h a) && (g v && k v)) o None
    both a v o = cond_twice (f a && g v) (h a && k v) o None ∙ ap (λ (b : Bool). cond b o None) (and_swap (f a) (g v) (h a) (k v))

-- two tests in one, or one beside a test that all pass
pub retired_by : (p : Priced) (f g h k act var : ℕ → Bool) → ((a : ℕ) → (f a && h a) ≡ act a) → ((v : ℕ) → (g v && k v) ≡ var v) → retired (retired p f g) h k ≡ retired p act var
retired_by p f g h k act var e l = retired_twice p f g h k ∙ ap₂ (retired p) (fun_ext e) (fun_ext l)

pub both_retired : (p : Priced) (a b : ℕ) → retired (retired p (λ c. not (eqb c a)) every) (λ c. not (eqb c b)) every ≡ retired p (λ c. not (eqb c a || eqb c b)) every
both_retired p a b = retired_by p (λ c. not (eqb c a)) every (λ c. not (eqb c b)) every (λ c. not (eqb c a || eqb c b)) every (λ c. neither (eqb c a) (eqb c b)) (λ v. refl)
  where
    neither : (x y : Bool) → (not x && not y) ≡ not (x || y)
    neither true y = refl
    neither false y = refl

-- the actions that pass a test stay, and a variable is retired
pub actions_and_variable : (r s : Rows) (keeps : ℕ → Bool) (v : ℕ) → s.variable_count ≡ r.variable_count → s.action_count ≡ r.action_count → ((w : ℕ) → variable_in s w ≡ variable_in r w) → ((a : ℕ) → action_in s a ≡ cond (keeps a) (action_in r a) None) → retired (tabled s) every (λ w. not (eqb w v)) ≡ retired (tabled r) keeps (λ w. not (eqb w v))
actions_and_variable r s keeps v vars acts same kept =
    ap (λ (p : Priced). retired p every (λ w. not (eqb w v))) ((λ i. priced_of (vars i) (acts i) (variable_in s) (action_in s)) ∙ retired_as r.variable_count r.action_count (variable_in r) (action_in r) keeps every _ _ same kept)
    ∙ retired_by (tabled r) keeps every every (λ w. not (eqb w v)) keeps (λ w. not (eqb w v)) (λ a. sym (and_true (keeps a))) (λ w. refl)

-- an action that is not live is not free
pub absent_not_free : (r : Rows) (v a : ℕ) → action_in r a ≡ None → is_free (task_in r) v a ≡ false
absent_not_free r v a e = rw e

-- the actions that stay once those chosen below n are retired
pub spared : List Bool → ℕ → ℕ → Bool
spared chosen n a = not (ltb a n && get_or chosen a false)

-- where every one stays, the task stays
same_retired : (p : Priced) → p ≡ retired p every every
same_retired p = alike p (retired p every every) (record {
  vars = refl;
  acts = refl;
  size = λ v. refl;
  var_live = λ v. and_true (p.task.var_live v);
  val_live = λ v x. and_true (p.task.val_live v x);
  act_live = λ a. and_true (p.task.act_live a);
  pre = λ a v. refl;
  eff = λ a v. refl;
  init = λ v. refl;
  goal = λ v. refl;
}) (λ a. refl)

module _ (p : Priced) (chosen : List Bool) where
  pub none_retired : p ≡ retired p (spared chosen 0) every
  unfolding spared
  none_retired = same_retired p ∙ ap (λ (f : ℕ → Bool). retired p f every) (fun_ext (λ a. stays a (get_or chosen a false)))
    where
      stays : (a : ℕ) (b : Bool) → true ≡ not (ltb a 0 && b)
      stays a b = grind (arith, nat_tests)

  pub one_retired : (n : ℕ) → get_or chosen n false ≡ true → retired (retired p (spared chosen n) every) (λ a. not (eqb a n)) every ≡ retired p (spared chosen (n + 1)) every
  unfolding spared
  one_retired n is = retired_by p (spared chosen n) every (λ a. not (eqb a n)) every (spared chosen (n + 1)) every (λ a. more a (get_or chosen a false) (λ e. ap (λ (k : ℕ). get_or chosen k false) e ∙ is)) (λ v. refl)
    where
      more : (a : ℕ) (b : Bool) → (a ≡ n → b ≡ true) → (not (ltb a n && b) && not (eqb a n)) ≡ not (ltb a (n + 1) && b)
      more a b h = grind (arith, nat_tests)

  pub one_spared : (n : ℕ) → get_or chosen n false ≡ false → retired p (spared chosen n) every ≡ retired p (spared chosen (n + 1)) every
  unfolding spared
  one_spared n is = ap (λ (f : ℕ → Bool). retired p f every) (fun_ext (λ a. more a (get_or chosen a false) (λ e. ap (λ (k : ℕ). get_or chosen k false) e ∙ is)))
    where
      more : (a : ℕ) (b : Bool) → (a ≡ n → b ≡ false) → not (ltb a n && b) ≡ not (ltb a (n + 1) && b)
      more a b h = grind (arith, nat_tests)

  pub all_retired : (n : ℕ) → length chosen ≤ n → retired p (spared chosen n) every ≡ retired p (λ a. not (get_or chosen a false)) every
  unfolding spared
  all_retired n long = ap (λ (f : ℕ → Bool). retired p f every) (fun_ext (λ a. whole a (get_or chosen a false) (λ past. get_or_past chosen a false (omega arith))))
    where
      whole : (a : ℕ) (b : Bool) → (n ≤ a → b ≡ false) → not (ltb a n && b) ≡ not b
      whole a b h = grind (arith, nat_tests)
