-- The law above detours: no list of free actions that leads the same way totals less.
use Rattle.std.specs.Prelude.{◌≡◌, ℕ, ◌<◌, ◌≤◌, true, List, length, Some, None, Option, slice_index}
use Rattle.tasks.specs.Task.{Task, Priced}
use Rattle.tasks.specs.Plans.{State, run}
use Rattle.tasks.specs.Measures.{CostAlgebra}
use Rattle.tasks.specs.Totals.{total}
use Rattle.detours.specs.Free.{is_free}
use Rattle.detours.specs.Detours.{Found}

-- a list of free actions of v that can be run from the state s and leaves v at r
pub record LeadsTo (t : Task) (v : ℕ) (s : State) (list : List ℕ) (r : ℕ) : Type 0 where
  pub free : (k : ℕ) → k < length list → is_free t v (slice_index list k) ≡ true
  pub runs : (u : State) × (run t s list ≡ Some u) × (u v ≡ r)

module _ {S : Type 0} (m : CostAlgebra S) (p : Priced) (v c r : ℕ) where
  -- from every state in which v has c the list leads to r, and no list that leads there from one of them totals less
  pub record LeastDetour (d : Found S) : Type 0 where
    pub starts : p.task.val_live v c ≡ true
    pub leads : (s : State) → s v ≡ c → LeadsTo p.task v s d.actions r
    pub short : length d.actions ≤ 63
    pub totals : d.total ≡ total m p d.actions
    pub least : (s : State) → s v ≡ c → (list : List ℕ) → LeadsTo p.task v s list r → m.at_most d.total (total m p list) ≡ true

  -- An answer is a list of least total; none says that no list leads from c, if that is live, to r.
  abbrev pub DetourDecides : Option (Found S) → Type 0
  DetourDecides (Some d) = LeastDetour d
  DetourDecides None = p.task.val_live v c ≡ true → (s : State) → s v ≡ c → (list : List ℕ) → LeadsTo p.task v s list r → ⊥
