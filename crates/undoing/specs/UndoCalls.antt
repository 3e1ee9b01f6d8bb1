-- What a call of undoing says, and what it leaves in the buffer and the table that it is lent.
use Rattle.std.specs.Prelude.{ℕ, ◌-◌, cond, List, ◌++◌, length, replicate, Ok, Err, Result, ◌==◌, nat_le}
use Rattle.tasks.specs.declared.refusal.Cause.TheVariants.{BufferSizes, BufferShort}
use Rattle.tasks.specs.declared.refusal.Refusal.{Refusal}
use Rattle.tasks.specs.Task.{Priced}
use Rattle.tasks.specs.Measures.{CostAlgebra}
use Rattle.tasks.specs.Totals.{total}
use Rattle.undoing.specs.declared.undone.Undone.{Undone}
use Rattle.reductions.specs.Steps.{Step}
use Rattle.reductions.specs.Undoing.{undone, inserted}

-- a list at the front of a buffer of n entries, with zeros behind it
abbrev pub placed : ℕ → List ℕ → List ℕ
placed n list = list ++ replicate (n - length list) 0

pub record UndoOutcome (S : Type 0) : Type 0 where
  pub said : Result (Undone S) Refusal
  pub buffer : List ℕ
  pub table : List S

-- Refused for a table that is not of 64, and all is left alone; then for a list that does not fit, and all is cleared.
abbrev pub undo_outcome : {S : Type 0} → CostAlgebra S → Priced → Step → List ℕ → List ℕ → List S → UndoOutcome S
undo_outcome m p s list buffer table =
    cond (length table == 64)
    (cond (nat_le (length (undone m p s list)) (length buffer))
    (record { said = Ok (record { length = length (undone m p s list); inserted = total m p (inserted m p s list) }); buffer = placed (length buffer) (undone m p s list); table = replicate 64 m.nothing })
    (record { said = Err (record { cause = BufferShort; place = 0 }); buffer = replicate (length buffer) 0; table = replicate 64 m.nothing }))
    (record { said = Err (record { cause = BufferSizes; place = 0 }); buffer = buffer; table = table })
