-- What the program makes of its two files.
use Rattle.std.specs.Prelude.{ℕ, zero, suc, ◌*◌, ◌/◌, ◌%◌, cond, not, ◌||◌, List, [], ◌∷◌, ◌++◌, length, Ok, Err, Result, ◌==◌, nat_lt}
use Rattle.tasks.specs.declared.refusal.Cause.TheVariants.{PlanFile}
use Rattle.tasks.specs.declared.refusal.Refusal.{Refusal}
use Rattle.tasks.specs.Task.{Priced}
use Rattle.tasks.specs.Measures.{charge}
use Rattle.tasks.specs.Totals.{checked_total}
use Rattle.packed.specs.Records.{word}
use Rattle.packed.specs.Decoding.{opened}

-- n action numbers, two bytes each, most significant first
abbrev pub action_numbers : List ℕ → ℕ → List ℕ
action_numbers bytes zero = []
action_numbers bytes (suc n) = action_numbers bytes n ++ (word bytes (2 * n) 2 ∷ [])

-- the plan in a file of an even number of bytes, 32,768 at most
abbrev pub plan_read : List ℕ → Result (List ℕ) Refusal
plan_read bytes =
    cond (not (length bytes % 2 == 0) || nat_lt 32768 (length bytes)) (Err (record { cause = PlanFile; place = 0 }))
    (Ok (action_numbers bytes (length bytes / 2)))

-- a plan and what it costs in charge
pub record PricedPlan : Type 0 where
  pub plan : List ℕ
  pub total : ℕ

abbrev pub with_total : List ℕ → Result ℕ Refusal → Result PricedPlan Refusal
with_total plan (Ok total) = Ok (record { plan = plan; total = total })
with_total plan (Err e) = Err e

abbrev pub plan_priced : Priced → Result (List ℕ) Refusal → Result PricedPlan Refusal
plan_priced p (Ok plan) = with_total plan (checked_total charge p plan)
plan_priced p (Err e) = Err e

abbrev pub on_task : Result Priced Refusal → List ℕ → Result PricedPlan Refusal
on_task (Ok p) plan_bytes = plan_priced p (plan_read plan_bytes)
on_task (Err e) plan_bytes = Err e

-- the task is opened, then the plan is read, then it is checked
abbrev pub job : List ℕ → List ℕ → Result PricedPlan Refusal
job task-bytes plan_bytes = on_task (opened task-bytes) plan_bytes
