-- The total of a list of actions, and of a plan that is checked.
use Rattle.std.specs.Prelude.{ℕ, List, [], ◌∷◌, Ok, Err, Result}
use Rattle.tasks.specs.declared.refusal.Refusal.{Refusal}
use Rattle.tasks.specs.Task.{Priced}
use Rattle.tasks.specs.Plans.{State, checked}
use Rattle.tasks.specs.Measures.{CostAlgebra}

module _ {S : Type 0} (m : CostAlgebra S) (p : Priced) where
  -- the weights of the actions, joined
  abbrev pub total : List ℕ → S
  total [] = m.nothing
  total (a ∷ rest) = m.join (m.weight (p.price a)) (total rest)

  abbrev pub weighed : List ℕ → Result State Refusal → Result S Refusal
  weighed plan (Ok s) = Ok (total plan)
  weighed plan (Err e) = Err e

  -- refused as the checking of the plan is, and otherwise its total
  abbrev pub checked_total : List ℕ → Result S Refusal
  checked_total plan = weighed plan (checked p.task plan)
