-- The job gives a report exactly when a plan works.
use Rattle.std.proofs.Common.{◌≡◌, ℕ, ◌<◌, List, get_or, Ok, Err, Result, sym, refl, ◌∙◌, subst, arith}
use Rattle.tasks.specs.declared.refusal.Refusal.{Refusal}
use Rattle.tasks.specs.Task.{Priced}
use Rattle.tasks.specs.Plans.{State, checked}
use Rattle.tasks.specs.Runs.{Run, RunDecides}
use Rattle.tasks.specs.Measures.{charge}
use Rattle.tasks.specs.Totals.{weighed}
use Rattle.tasks.proofs.Checking.{run_decides}
use Rattle.packed.specs.Decoding.{opened}
use Rattle.packed.specs.Packing.{Packs, PackingDecides}
use Rattle.job.specs.Jobs.{plan_read, with_total, plan_priced, on_task, job}
use Rattle.job.specs.JobLaw.{JobDecides}
use Rattle.job.proofs.Spelling.{reads_spell, spells_read}

ok_same : {A : Type 0} (x y : A) → ◌≡◌ {A = Result A Refusal} (Ok x) (Ok y) → x ≡ y
ok_same x y e = cc

err_ok : {A B : Type 0} (e : Refusal) (x : A) → ◌≡◌ {A = Result A Refusal} (Err e) (Ok x) → B
err_ok e x p = let z : ◌≡◌ {A = ℕ} 0 1 = cc in absurd (omega arith)

module _ (task file : List ℕ) (small : (k : ℕ) → get_or file k 0 < 256) where
  -- the plan is read: it works if it has a run
  on_plan : (p : Priced) → Packs p task → ((q : Priced) → Packs q task → q ≡ p) → (plan : List ℕ) → plan_read file ≡ Ok plan → (r : Result State Refusal) → RunDecides p.task plan r → JobDecides task file (with_total plan (weighed charge p plan r))
  on_plan p packs only plan reads (Ok s) h = (p, h.0, record { packs = packs; spells = reads_spell file plan small reads; runs = h.1 }, refl)
  on_plan p packs only plan reads (Err e) h = λ q other states w.
      h states (subst (λ (t : Priced). Run t.task plan states) (only q w.packs) (subst (λ (xs : List ℕ). Run q.task xs states) (ok_same other plan (sym (spells_read file other w.spells) ∙ reads)) w.runs))

  on_file : (p : Priced) → Packs p task → ((q : Priced) → Packs q task → q ≡ p) → (o : Result (List ℕ) Refusal) → plan_read file ≡ o → JobDecides task file (plan_priced p o)
  on_file p packs only (Ok plan) reads = on_plan p packs only plan reads (checked p.task plan) (run_decides p.task packs.lawful plan)
  on_file p packs only (Err e) reads = λ q other states w. err_ok e other (sym reads ∙ spells_read file other w.spells)

  on_opened : (o : Result Priced Refusal) → PackingDecides task o → JobDecides task file (on_task o file)
  on_opened (Ok p) h = on_file p h.0 h.1 (plan_read file) refl
  on_opened (Err e) h = λ q other states w. h q w.packs

  pub job_decides : PackingDecides task (opened task) → JobDecides task file (job task file)
  job_decides h = on_opened (opened task) h

  -- the same from what opening the task answered
  pub decided : (o : Result Priced Refusal) → o ≡ opened task → PackingDecides task o → JobDecides task file (job task file)
  decided o e h = job_decides (subst (PackingDecides task) e h)
