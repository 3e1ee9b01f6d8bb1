-- What a step that is offered to a table comes to.
use Rattle.std.specs.Prelude.{ℕ, Some, None, Option, Result}
use Rattle.tasks.specs.declared.refusal.Refusal.{Refusal}
use Rattle.tasks.specs.Task.{Priced}
use Rattle.reductions.specs.Steps.{Step}
use Rattle.reductions.specs.Acceptance.{adding_refusal, answer_of}
use Rattle.reductions.specs.Applying.{applied}

abbrev pub left_by : Option Refusal → Priced → Step → Priced
left_by None p s = applied p s
left_by (Some e) p s = p

-- the answer, where so many steps stand
abbrev pub refused_by : ℕ → Priced → Step → Result (Unit {0}) Refusal
refused_by standing p s = answer_of (adding_refusal standing p s)

-- the task then: after the step, or as it was where it is refused
abbrev pub reduced_by : ℕ → Priced → Step → Priced
reduced_by standing p s = left_by (adding_refusal standing p s) p s
