-- How the code brings a variable from one value to another.
use Rattle.std.specs.Prelude.{ℕ, List, Option}
use Rattle.tasks.specs.Task.{Priced}
use Rattle.reductions.specs.Undoing.{Connector, connect, refined, insertions}

-- the variable, and the actions that bring it from one value to another
pub record Way : Type 0 where
  pub variable : ℕ
  pub connector : Priced → Connector

module _ (w : Way) (p : Priced) where
  -- what brings the variable from c to a value that is wanted
  abbrev pub brought : ℕ → Option ℕ → List ℕ
  brought c wanted = connect (w.connector p) c wanted

  -- the list, with the variable brought to each value that is required, from its initial one on
  abbrev pub refined_by : List ℕ → List ℕ
  refined_by list = refined (w.connector p) p.task w.variable (p.task.init w.variable) list

  -- what `refined_by` puts in
  abbrev pub inserted_by : List ℕ → List ℕ
  inserted_by list = insertions (w.connector p) p.task w.variable (p.task.init w.variable) list
