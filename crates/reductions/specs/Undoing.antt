-- What a plan of the task after a step becomes in the task before it.
use Rattle.std.specs.Prelude.{ℕ, cond, ◌&&◌, List, [], ◌∷◌, ◌++◌, Some, None, Option, ◌==◌}
use Rattle.tasks.specs.Task.{Task, Priced}
use Rattle.tasks.specs.Plans.{over}
use Rattle.tasks.specs.Measures.{CostAlgebra}
use Rattle.tasks.specs.Totals.{total}
use Rattle.detours.specs.Detours.{Found, detour}
use Rattle.reductions.specs.Steps.{Step, merge, generalise, variable, action, abstract, has_value}

-- the actions that bring v from one value to another
abbrev pub Connector : Type 0
Connector = ℕ → ℕ → List ℕ

abbrev pub connect : Connector → ℕ → Option ℕ → List ℕ
connect bring c None = []
connect bring c (Some r) = bring c r

-- the list, with v brought to each value that an action requires, and at the end to its goal
abbrev pub refined : Connector → Task → ℕ → ℕ → List ℕ → List ℕ
refined bring t v c [] = connect bring c (t.goal v)
refined bring t v c (a ∷ rest) = connect bring c (t.pre a v) ++ (a ∷ refined bring t v (over (t.eff a v) (over (t.pre a v) c)) rest)

-- what `refined` puts in
abbrev pub insertions : Connector → Task → ℕ → ℕ → List ℕ → List ℕ
insertions bring t v c [] = connect bring c (t.goal v)
insertions bring t v c (a ∷ rest) = connect bring c (t.pre a v) ++ insertions bring t v (over (t.eff a v) (over (t.pre a v) c)) rest

-- each a becomes b where v has the value that b requires
abbrev pub specialised : Task → ℕ → ℕ → ℕ → ℕ → List ℕ → List ℕ
specialised t v a b c [] = []
specialised t v a b c (d ∷ rest) = cond (d == a && has_value c (t.pre b v)) b d ∷ specialised t v a b (over (t.eff d v) c) rest

-- a leads from x to y, and b back
abbrev pub merge_connector : ℕ → ℕ → ℕ → ℕ → Connector
merge_connector x y a b c r = cond (c == y && r == x) (b ∷ []) (cond (c == x && r == y) (a ∷ []) [])

-- a list with its total
abbrev pub with_total : {S : Type 0} → CostAlgebra S → Priced → List ℕ → Found S
with_total m p list = record { actions = list; total = total m p list }

module _ {S : Type 0} (m : CostAlgebra S) where
  abbrev pub actions_of : Option (Found S) → List ℕ
  actions_of None = []
  actions_of (Some d) = d.actions

  abbrev pub detour_connector : Priced → ℕ → Connector
  detour_connector p v c r = actions_of (detour m p v c r)

  abbrev pub undone : Priced → Step → List ℕ → List ℕ
  undone p (merge v x y a b) list = refined (merge_connector x y a b) p.task v (p.task.init v) list
  undone p (generalise v a b) list = specialised p.task v a b (p.task.init v) list
  undone p (variable v) list = list
  undone p (action a by) list = list
  undone p (abstract v) list = refined (detour_connector p v) p.task v (p.task.init v) list

  abbrev pub inserted : Priced → Step → List ℕ → List ℕ
  inserted p (merge v x y a b) list = insertions (merge_connector x y a b) p.task v (p.task.init v) list
  inserted p (generalise v a b) list = []
  inserted p (variable v) list = []
  inserted p (action a by) list = []
  inserted p (abstract v) list = insertions (detour_connector p v) p.task v (p.task.init v) list
