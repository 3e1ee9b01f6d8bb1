-- The theorems about one step, and about a list of steps that stand.
use Rattle.std.specs.Prelude.{◌≡◌, ℕ, ◌+◌, true, List, [], ◌∷◌, length}
use Rattle.tasks.specs.Task.{Priced, Lawful}
use Rattle.tasks.specs.Plans.{State, is_plan}
use Rattle.tasks.specs.Measures.{CostAlgebra, CostLaws}
use Rattle.tasks.specs.Totals.{total}
use Rattle.detours.specs.DetourLaw.{LeadsTo}
use Rattle.reductions.specs.Reaching.{connected}
use Rattle.reductions.specs.Steps.{Step}
use Rattle.reductions.specs.Acceptance.{accepted}
use Rattle.reductions.specs.Applying.{applied, reduced}
use Rattle.reductions.specs.Undoing.{undone, inserted}
use Rattle.reductions.specs.Histories.{EquallySolvable, SoundExtension}

-- an accepted step keeps the task lawful
abbrev pub StepsKeepLawful : Type 0
StepsKeepLawful = (p : Priced) (s : Step) → Lawful p.task → accepted p s ≡ true → Lawful (applied p s).task

-- a task is solvable exactly when the task after an accepted step is
abbrev pub StepsKeepSolvable : Type 0
StepsKeepSolvable = (p : Priced) (s : Step) → Lawful p.task → accepted p s ≡ true → EquallySolvable (applied p s) p

-- free actions lead from every live value of v to every other exactly when v is connected
pub record ReachedEverywhere (p : Priced) (v : ℕ) : Type 0 where
  pub leads : connected p.task v ≡ true → (c r : ℕ) → p.task.val_live v c ≡ true → p.task.val_live v r ≡ true → (list : List ℕ) × ((s : State) → s v ≡ c → LeadsTo p.task v s list r)
  pub from_leads : ((c r : ℕ) → p.task.val_live v c ≡ true → p.task.val_live v r ≡ true → (list : List ℕ) × ((s : State) → s v ≡ c → LeadsTo p.task v s list r)) → connected p.task v ≡ true

abbrev pub ConnectedDecides : Type 0
ConnectedDecides = (p : Priced) (v : ℕ) → Lawful p.task → ReachedEverywhere p v

-- each step is accepted in the task that those before it leave
abbrev pub Stands : Priced → List Step → Type 0
Stands p [] = Unit {0}
Stands p (s ∷ ss) = (accepted p s ≡ true) × Stands (applied p s) ss

module _ {S : Type 0} (m : CostAlgebra S) where
  -- a plan of the task after a step, undone, is a plan of the task before; its total and its length are those of the plan with what was inserted
  pub record SoundUndoing (p : Priced) (s : Step) (plan : List ℕ) : Type 0 where
    pub is_a_plan : is_plan p.task (undone m p s plan) ≡ true
    pub joins : total m p (undone m p s plan) ≡ m.join (total m (applied p s) plan) (total m p (inserted m p s plan))
    pub counts : length (undone m p s plan) ≡ length plan + length (inserted m p s plan)

  abbrev pub UndoingSound : Type 0
  UndoingSound = CostLaws m → (p : Priced) (s : Step) → Lawful p.task → accepted p s ≡ true → (plan : List ℕ) → is_plan (applied p s).task plan ≡ true → SoundUndoing p s plan

  -- the same over every list of steps that stand
  abbrev pub ExtendingSound : Type 0
  ExtendingSound = CostLaws m → (p : Priced) (ss : List Step) → Lawful p.task → Stands p ss → (plan : List ℕ) → is_plan (reduced p ss).task plan ≡ true → SoundExtension m p ss plan

-- the same over every list of steps that stand
abbrev pub StandingKeeps : Type 0
StandingKeeps = (p : Priced) (ss : List Step) → Lawful p.task → Stands p ss → Lawful (reduced p ss).task × EquallySolvable (reduced p ss) p
