-- What a check of one part of a file answers.
use Rattle.std.specs.Prelude.{◌≡◌, ℕ, ◌<◌, List, Some, None, Ok, Err, Option, Result, slice_index}
use Rattle.tasks.specs.declared.refusal.Refusal.{Refusal}
use Rattle.packed.specs.Decoding.{actions, action_at}

-- the offsets of the actions' records
abbrev pub Placed : List ℕ → List ℕ → Type 0
Placed bytes offsets = (a : ℕ) → a < actions bytes → slice_index offsets a ≡ action_at bytes a

-- the refusal, or else the answer
abbrev pub unless : {A : Type 0} → Option Refusal → A → Result A Refusal
unless (Some e) x = Err e
unless None x = Ok x
