-- Writing a list into a buffer, and a plan that is undone.
use Rattle.std.specs.Prelude.{◌≡◌, ℕ, ◌+◌, ◌<◌, ◌≤◌, List, ◌++◌, length, take, drop, Some, None, Option, Ok, Err, Result}
use Rattle.tasks.specs.Task.{Priced}
use Rattle.tasks.specs.Measures.{CostAlgebra}
use Rattle.tasks.specs.Totals.{total}
use Rattle.undoing.specs.declared.undone.Undone.{Undone}
use Rattle.undoing.specs.declared.writing.Full.{Full}
use Rattle.undoing.specs.declared.writing.Writer.{Writer}

-- the list stands in the buffer from `at` on, and nothing else of it was changed
pub record StandsAt (before : List ℕ) (at : ℕ) (list after : List ℕ) (end : ℕ) : Type 0 where
  pub ends : end ≡ at + length list
  pub within : end ≤ length before
  pub same_length : length after ≡ length before
  pub written : take end after ≡ take at before ++ list
  pub left : drop end after ≡ drop end before

-- it is there, and where it ends is said, or it does not fit
abbrev pub Wrote : List ℕ → ℕ → List ℕ → List ℕ → Option ℕ → Type 0
Wrote before at list after (Some end) = StandsAt before at list after end
Wrote before at list after None = (length before < at + length list) × (length after ≡ length before)

abbrev pub end_of : {X : Type 0} → ℕ → Result X Full → Option ℕ
end_of end (Ok x) = Some end
end_of end (Err e) = None

-- the writer has the list behind what it had written, or it does not fit
abbrev pub Writes : {X : Type 0} → Writer → List ℕ → Writer → Result X Full → Type 0
Writes before list after r = (after.buffer.ghost_name ≡ before.buffer.ghost_name) × Wrote before.buffer.now before.written list after.buffer.now (end_of after.written r)

-- The list is written from the front, where it ends and the total of what was inserted are said, or it does not fit.
abbrev pub Undid : {S : Type 0} → CostAlgebra S → Priced → List ℕ → List ℕ → List ℕ → List ℕ → Result (Undone S) Full → Type 0
Undid m p list inserted before after (Ok u) = StandsAt before 0 list after u.length × (u.inserted ≡ total m p inserted)
Undid m p list inserted before after (Err e) = Wrote before 0 list after None
