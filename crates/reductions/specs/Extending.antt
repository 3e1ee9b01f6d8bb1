-- What a plan of the reduced task becomes at the bottom, and what a call of extending answers and leaves.
use Rattle.std.specs.Prelude.{ℕ, ◌-◌, Bool, true, false, not, ◌||◌, List, [], ◌∷◌, ◌++◌, length, replicate, Ok, Err, Result, ◌==◌, nat_le, nat_lt}
use Rattle.tasks.specs.declared.refusal.Cause.TheVariants.{BufferSizes, BufferShort}
use Rattle.tasks.specs.declared.refusal.Refusal.{Refusal}
use Rattle.tasks.specs.Task.{Priced}
use Rattle.tasks.specs.Plans.{State, checked}
use Rattle.tasks.specs.Measures.{CostAlgebra}
use Rattle.tasks.specs.Totals.{total}
use Rattle.reductions.specs.Steps.{Step}
use Rattle.reductions.specs.Applying.{applied, reduced}
use Rattle.reductions.specs.Undoing.{undone, inserted}

-- the two buffers and the work table that a call is lent
pub record Buffers (S : Type 0) : Type 0 where
  pub first : List ℕ
  pub second : List ℕ
  pub table : List S

-- the length and total of the list at the bottom, the total of the plan of the pile, and how many actions were inserted at what total
pub record Answer (S : Type 0) : Type 0 where
  pub long : ℕ
  pub costs : S
  pub plan_costs : S
  pub inserted_long : ℕ
  pub inserted_costs : S

-- what was said, and what the buffers hold then
pub record Outcome (S : Type 0) : Type 0 where
  pub said : Result (Answer S) Refusal
  pub left : Buffers S

module _ {S : Type 0} (m : CostAlgebra S) where
  -- the steps are undone from the last to the first
  abbrev pub extended : Priced → List Step → List ℕ → List ℕ
  extended p [] plan = plan
  extended p (s ∷ ss) plan = undone m p s (extended (applied p s) ss plan)

  abbrev pub all_inserted : Priced → List Step → List ℕ → List ℕ
  all_inserted p [] plan = []
  all_inserted p (s ∷ ss) plan = all_inserted (applied p s) ss plan ++ inserted m p s (extended (applied p s) ss plan)

  -- the buffers are unequal or over 65,535 entries, or the table is not of 64
  abbrev pub ill_sized : Buffers S → Bool
  ill_sized u = not (length u.first == length u.second) || nat_lt 65535 (length u.first) || not (length u.table == 64)

  abbrev pub answer : Priced → List Step → List ℕ → Answer S
  answer b ss plan = record {
    long = length (extended b ss plan);
    costs = total m b (extended b ss plan);
    plan_costs = total m (reduced b ss) plan;
    inserted_long = length (all_inserted b ss plan);
    inserted_costs = total m b (all_inserted b ss plan);
  }

  -- the list with zeros behind it, zeros, and totals for nothing
  abbrev pub written : List ℕ → Buffers S → Buffers S
  written list u = record {
    first = list ++ replicate (length u.first - length list) 0;
    second = replicate (length u.second) 0;
    table = replicate 64 m.nothing;
  }

  abbrev pub extend_fitting : Priced → List Step → List ℕ → Buffers S → Outcome S
  extend_fitting b ss plan u =
      elim (nat_le (length (extended b ss plan)) (length u.first)) [
        | true ↦ record { said = Ok (answer b ss plan); left = written (extended b ss plan) u }
        | false ↦ record { said = Err (record { cause = BufferShort; place = 0 }); left = written [] u }
      ]

  abbrev pub extend_checked : Priced → List Step → List ℕ → Buffers S → Result State Refusal → Outcome S
  extend_checked b ss plan u (Ok s) = extend_fitting b ss plan u
  extend_checked b ss plan u (Err e) = record { said = Err e; left = u }

  -- Refused for the buffers, then as the plan's check on the pile refuses, and all is left alone; then for the length, and all is cleared.
  abbrev pub extend : Priced → List Step → List ℕ → Buffers S → Outcome S
  extend b ss plan u =
      elim (ill_sized u) [
        | true ↦ record { said = Err (record { cause = BufferSizes; place = 0 }); left = u }
        | false ↦ extend_checked b ss plan u (checked (reduced b ss).task plan)
      ]
