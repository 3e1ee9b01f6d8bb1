-- The law above the decoding: the bytes that the format gives a task, and that a file opens exactly as the task that it packs.
use Rattle.std.specs.Prelude.{◌≡◌, ℕ, zero, suc, ◌+◌, ◌-◌, ◌*◌, ◌/◌, ◌%◌, ◌^◌, ◌<◌, ◌≤◌, true, cond, List, [], ◌∷◌, ◌++◌, length, is_some, Some, None, Ok, Err, Option, Result}
use Rattle.tasks.specs.declared.refusal.Refusal.{Refusal}
use Rattle.tasks.specs.Task.{Task, Priced, Lawful}

-- a number in k bytes, most significant first
abbrev pub bytes_of : ℕ → ℕ → List ℕ
bytes_of zero n = []
bytes_of (suc k) n = bytes_of k (n / 256) ++ (n % 256 ∷ [])

-- f 0, f 1, .. up to below f n, one behind the other
abbrev pub in_turn : ℕ → (ℕ → List ℕ) → List ℕ
in_turn zero f = []
in_turn (suc n) f = in_turn n f ++ f n

-- layout 1 in 4 bits, the variables in 6, the actions in 10, and 12 spare bits
abbrev pub header_number : ℕ → ℕ → ℕ
header_number vars acts = 1 * 2 ^ 28 + vars * 2 ^ 22 + acts * 2 ^ 12

-- the goal's bit and its value in 6, and 5 spare bits
abbrev pub goal_number : Option ℕ → ℕ
goal_number None = 0
goal_number (Some x) = 1 * 2 ^ 11 + x * 2 ^ 5

-- how many values, less one, in 6 bits; the initial value in 6; the goal
abbrev pub variable_number : ℕ → ℕ → Option ℕ → ℕ
variable_number size initial goal = (size - 1) * 2 ^ 18 + initial * 2 ^ 12 + goal_number goal

-- the price in 16 bits, how many preconditions in 6, how many effects in 6, and 4 spare bits
abbrev pub action_number : ℕ → ℕ → ℕ → ℕ
action_number price preconditions effects = price * 2 ^ 16 + preconditions * 2 ^ 10 + effects * 2 ^ 4

-- the variable in 5 bits, its value in 6, and 5 spare bits
abbrev pub fact_bytes : ℕ → Option ℕ → List ℕ
fact_bytes v None = []
fact_bytes v (Some x) = bytes_of 2 (v * 2 ^ 11 + x * 2 ^ 5)

-- the facts of an action, variables ascending
abbrev pub facts_bytes : ℕ → (ℕ → Option ℕ) → List ℕ
facts_bytes n asked = in_turn n (λ v. fact_bytes v (asked v))

-- how many there are
abbrev pub fact_count : ℕ → (ℕ → Option ℕ) → ℕ
fact_count zero asked = 0
fact_count (suc n) asked = fact_count n asked + cond (is_some (asked n)) 1 0

abbrev pub variable_bytes : Task → ℕ → List ℕ
variable_bytes t v = bytes_of 3 (variable_number (t.size v) (t.init v) (t.goal v))

abbrev pub action_bytes : Priced → ℕ → List ℕ
action_bytes p a =
    bytes_of 4 (action_number (p.price a) (fact_count p.task.vars (p.task.pre a)) (fact_count p.task.vars (p.task.eff a)))
    ++ (facts_bytes p.task.vars (p.task.pre a) ++ facts_bytes p.task.vars (p.task.eff a))

-- the bytes that the format gives a task
abbrev pub packing : Priced → List ℕ
packing p = bytes_of 4 (header_number p.task.vars p.task.acts) ++ (in_turn p.task.vars (variable_bytes p.task) ++ in_turn p.task.acts (action_bytes p))

-- everything in range is live
pub record AllLive (t : Task) : Type 0 where
  pub variables : (v : ℕ) → v < t.vars → t.var_live v ≡ true
  pub values : (v x : ℕ) → x < t.size v → t.val_live v x ≡ true
  pub actions : (a : ℕ) → a < t.acts → t.act_live a ≡ true

-- prices fit 16 bits, and what is out of range costs nothing
pub record FairPrices (p : Priced) : Type 0 where
  pub fit : (a : ℕ) → p.price a < 65536
  pub none : (a : ℕ) → p.task.acts ≤ a → p.price a ≡ 0

-- the bytes are the file of a task within the limits in which everything is live
pub record Packs (p : Priced) (bytes : List ℕ) : Type 0 where
  pub lawful : Lawful p.task
  pub all_live : AllLive p.task
  pub prices : FairPrices p
  pub short : length bytes ≤ 65536
  pub bytes_are : packing p ≡ bytes

-- An answer is the one task that the bytes pack; a refusal says that they pack none.
abbrev pub PackingDecides : List ℕ → Result Priced Refusal → Type 0
PackingDecides bytes (Ok p) = Packs p bytes × ((q : Priced) → Packs q bytes → q ≡ p)
PackingDecides bytes (Err e) = (q : Priced) → Packs q bytes → ⊥
