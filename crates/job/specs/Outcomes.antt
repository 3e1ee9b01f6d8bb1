-- What an answer of the code says.
use Rattle.std.specs.Prelude.{◌≡◌, ℕ, List, Ok, Err, vec_items, Result, Vec}
use Rattle.std.specs.declared.alloc.Global.{Global}
use Rattle.tasks.specs.declared.refusal.Refusal.{Refusal}
use Rattle.job.specs.declared.failure.Failure.{Failure}
use Rattle.job.specs.declared.failure.Failure.TheVariants.{Refused, NoMemory}
use Rattle.job.specs.declared.report.Report.{Report}
use Rattle.job.specs.Jobs.{PricedPlan}

-- An answer or a refusal is the one that is due; want of memory says nothing.
abbrev pub ComesTo : {A B : Type 0} → (A → B) → Result A Failure → Result B Refusal → Type 0
ComesTo read (Ok x) due = due ≡ Ok (read x)
ComesTo read (Err (Refused e)) due = due ≡ Err e
ComesTo read (Err NoMemory) due = Unit {0}

abbrev pub actions_in : Vec ℕ Global → List ℕ
actions_in v = vec_items v

abbrev pub reported : Report → PricedPlan
reported r = record { plan = vec_items r.plan; total = r.total }
