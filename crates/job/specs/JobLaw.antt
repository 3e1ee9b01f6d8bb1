-- The law above the job, in the subject's words.
use Rattle.std.specs.Prelude.{◌≡◌, ℕ, ◌<◌, ◌≤◌, List, [], ◌∷◌, ◌++◌, length, Ok, Err, Result, slice_index}
use Rattle.tasks.specs.declared.refusal.Refusal.{Refusal}
use Rattle.tasks.specs.Task.{Priced}
use Rattle.tasks.specs.Plans.{State}
use Rattle.tasks.specs.Runs.{Run}
use Rattle.tasks.specs.Measures.{charge}
use Rattle.tasks.specs.Totals.{total}
use Rattle.packed.specs.Packing.{bytes_of, Packs}
use Rattle.job.specs.Jobs.{PricedPlan}

-- two bytes for each action, most significant first
abbrev pub plan_bytes : List ℕ → List ℕ
plan_bytes [] = []
plan_bytes (a ∷ rest) = bytes_of 2 a ++ plan_bytes rest

-- the bytes are the file of a plan
pub record Spells (plan bytes : List ℕ) : Type 0 where
  pub small : (k : ℕ) → slice_index plan k < 65536
  pub few : length plan ≤ 16384
  pub bytes_are : plan_bytes plan ≡ bytes

-- the one file packs p, the other spells a plan, and the plan has a run in p
pub record Works (task plan-file : List ℕ) (p : Priced) (plan : List ℕ) (states : List State) : Type 0 where
  pub packs : Packs p task
  pub spells : Spells plan plan-file
  pub runs : Run p.task plan states

-- A report has the plan that works, and what it costs in charge; a refusal says that none does.
abbrev pub JobDecides : List ℕ → List ℕ → Result PricedPlan Refusal → Type 0
JobDecides task plan-file (Ok r) = (p : Priced) × (states : List State) × Works task plan-file p r.plan states × (r.total ≡ total charge p r.plan)
JobDecides task plan-file (Err e) = (p : Priced) (plan : List ℕ) (states : List State) → Works task plan-file p plan states → ⊥
