-- What the bytes of a packed file mean, and which bytes are refused.
use Rattle.std.specs.Prelude.{ℕ, zero, suc, ◌+◌, ◌*◌, Bool, true, cond, not, ◌&&◌, ◌||◌, List, length, Some, None, Ok, Err, Option, Result, ◌==◌, nat_lt}
use Rattle.tasks.specs.declared.refusal.Cause.TheVariants.{FileLength, Layout, Counts, SpareBit, CutShort, ValueRange, VariableOrder, LeftOver}
use Rattle.tasks.specs.declared.refusal.Refusal.{Refusal}
use Rattle.tasks.specs.Bounds.{first_some}
use Rattle.tasks.specs.Refusals.{refuse}
use Rattle.tasks.specs.Task.{Task, Priced, priced}
use Rattle.packed.specs.Records.{word, layout, variable_count, action_count, header_spare, size_of, initial_of, goal_of, values_fit, variable_spare, price_of, precondition_count, effect_count, action_spare, fact_variable, fact_value, fact_spare}

-- the value that a fact gives to v
abbrev pub fact_for : ℕ → ℕ → Option ℕ
fact_for v n = cond (fact_variable n == v) (Some (fact_value n)) None

module _ (bytes : List ℕ) where
  abbrev pub header : ℕ
  header = word bytes 0 4

  abbrev pub variables : ℕ
  variables = variable_count header

  abbrev pub actions : ℕ
  actions = action_count header

  abbrev pub variable_at : ℕ → ℕ
  variable_at v = 4 + 3 * v

  abbrev pub variable_record : ℕ → ℕ
  variable_record v = word bytes (variable_at v) 3

  abbrev pub size : ℕ → ℕ
  size v = cond (nat_lt v variables) (size_of (variable_record v)) 0

  -- where the effects begin, and where the next record does, of an action whose record is at a place
  abbrev pub effects_at : ℕ → ℕ
  effects_at place = place + 4 + 2 * precondition_count (word bytes place 4)

  abbrev pub past_action : ℕ → ℕ
  past_action place = effects_at place + 2 * effect_count (word bytes place 4)

  abbrev pub action_at : ℕ → ℕ
  action_at zero = variable_at variables
  action_at (suc a) = past_action (action_at a)

  abbrev pub action_record : ℕ → ℕ
  action_record a = word bytes (action_at a) 4

  -- fact k of the facts that begin at a place
  abbrev pub fact_record : ℕ → ℕ → ℕ
  fact_record place k = word bytes (place + 2 * k) 2

  -- the value that so many facts, from a place on, give to v
  abbrev pub looked_up : ℕ → ℕ → ℕ → Option ℕ
  looked_up place count v = first_some count (λ k. fact_for v (fact_record place k))

  abbrev pub preconditions : ℕ → ℕ → Option ℕ
  preconditions a v = looked_up (action_at a + 4) (precondition_count (action_record a)) v

  abbrev pub effects : ℕ → ℕ → Option ℕ
  effects a v = looked_up (effects_at (action_at a)) (effect_count (action_record a)) v

  -- everything in a file is live
  abbrev pub decoded_task : Task
  decoded_task = record {
    vars = variables;
    acts = actions;
    size = size;
    var_live = λ v. nat_lt v variables;
    val_live = λ v x. nat_lt x (size v);
    act_live = λ a. nat_lt a actions;
    pre = λ a v. cond (nat_lt a actions) (preconditions a v) None;
    eff = λ a v. cond (nat_lt a actions) (effects a v) None;
    init = λ v. cond (nat_lt v variables) (initial_of (variable_record v)) 0;
    goal = λ v. cond (nat_lt v variables) (goal_of (variable_record v)) None;
  }

  abbrev pub tariff : ℕ → ℕ
  tariff a = price_of (action_record a)

  abbrev pub decoded : Priced
  decoded = priced decoded_task tariff

  abbrev pub header_refusal : Option Refusal
  header_refusal =
      cond (nat_lt (length bytes) 4 || nat_lt 65536 (length bytes)) (refuse FileLength 0)
      (cond (not (layout header == 1)) (refuse Layout 0)
      (cond (nat_lt 32 variables || nat_lt 512 actions) (refuse Counts 0)
      (cond (not (header_spare header == 0)) (refuse SpareBit 0) None)))

  abbrev pub variable_refusal : ℕ → Option Refusal
  variable_refusal v =
      cond (nat_lt (length bytes) (variable_at v + 3)) (refuse CutShort (variable_at v))
      (cond (not (variable_spare (variable_record v) == 0)) (refuse SpareBit (variable_at v))
      (cond (not (values_fit (variable_record v))) (refuse ValueRange (variable_at v)) None))

  -- the variable of fact k is past that of the fact before it
  abbrev pub ascends : ℕ → ℕ → Bool
  ascends place zero = true
  ascends place (suc k) = nat_lt (fact_variable (fact_record place k)) (fact_variable (fact_record place (suc k)))

  -- fact k of the facts that begin at a place
  abbrev pub fact_refusal : ℕ → ℕ → Option Refusal
  fact_refusal place k =
      let n = fact_record place k in
      cond (nat_lt (length bytes) (place + 2 * k + 2)) (refuse CutShort (place + 2 * k))
      (cond (not (fact_spare n == 0)) (refuse SpareBit (place + 2 * k))
      (cond (not (nat_lt (fact_variable n) variables && ascends place k)) (refuse VariableOrder (place + 2 * k))
      (cond (not (nat_lt (fact_value n) (size (fact_variable n)))) (refuse ValueRange (place + 2 * k)) None)))

  abbrev pub facts_refusal : ℕ → ℕ → Option Refusal
  facts_refusal place count = first_some count (fact_refusal place)

  -- an action's first four bytes, at a place
  abbrev pub start_refusal : ℕ → Option Refusal
  start_refusal place =
      cond (nat_lt (length bytes) (place + 4)) (refuse CutShort place)
      (cond (not (action_spare (word bytes place 4) == 0)) (refuse SpareBit place) None)

  -- an action whose record is at a place: its first four bytes, its preconditions, its effects
  abbrev pub action_refusal : ℕ → Option Refusal
  action_refusal place =
      elim (start_refusal place) [
        | Some e ↦ Some e
        | None ↦ elim (facts_refusal (place + 4) (precondition_count (word bytes place 4))) [
          | Some e ↦ Some e
          | None ↦ facts_refusal (effects_at place) (effect_count (word bytes place 4))
        ]
      ]

  abbrev pub actions_refusal : Option Refusal
  actions_refusal = first_some actions (λ a. action_refusal (action_at a))

  -- front to back: the first record, the variables, the actions, and then bytes left over
  abbrev pub refusal : Option Refusal
  refusal =
      elim header_refusal [
        | Some e ↦ Some e
        | None ↦ elim (first_some variables variable_refusal) [
          | Some e ↦ Some e
          | None ↦ elim actions_refusal [
            | Some e ↦ Some e
            | None ↦ cond (nat_lt (action_at actions) (length bytes)) (refuse LeftOver (action_at actions)) None
          ]
        ]
      ]

  -- what opening comes to: the refusal, or the task
  abbrev pub opened : Result Priced Refusal
  opened = elim refusal [ Some e ↦ Err e | None ↦ Ok decoded ]
