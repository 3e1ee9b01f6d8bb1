-- Paths of free actions, and that they are the lists of free actions that can be run.
use Rattle.std.proofs.Common.{◌≡◌, ℕ, zero, suc, ◌<◌, true, List, [], ◌∷◌, ◌++◌, length, get_or, Some, sym, refl, ap, ◌∙◌, subst, ⊎_elim, arith}
use Rattle.std.proofs.lemmas.Bool.{cases_eq}
use Rattle.tasks.specs.Task.{Task, Lawful}
use Rattle.tasks.specs.Plans.{State, agrees, after}
use Rattle.tasks.specs.Runs.{CanRun}
use Rattle.tasks.specs.Optional.{none_some}
use Rattle.tasks.proofs.Lawful.{over_some, over_none, agrees_at, agrees_from}
use Rattle.tasks.proofs.Running.{Leads, leads_map, run_from, run_at}
use Rattle.detours.specs.Free.{is_free}
use Rattle.detours.specs.DetourLaw.{LeadsTo}
use Rattle.detours.proofs.FreeActions.{free_at}

-- the free action a leads v from u to w
pub record FreeStep (t : Task) (v u a w : ℕ) : Type 0 where
  pub free : is_free t v a ≡ true
  pub fits : agrees (t.pre a v) u ≡ true
  pub sets : t.eff a v ≡ Some w

-- the list leads v from c to r, step by step
abbrev pub FreePath : Task → ℕ → ℕ → List ℕ → ℕ → Type 0
FreePath t v c [] r = c ≡ r
FreePath t v c (a ∷ rest) r = (w : ℕ) × FreeStep t v c a w × FreePath t v w rest r

-- a path after a path
pub path_append : (t : Task) (v : ℕ) (xs ys : List ℕ) (c w r : ℕ) → FreePath t v c xs w → FreePath t v w ys r → FreePath t v c (xs ++ ys) r
path_append t v [] ys c w r p q = subst (λ (k : ℕ). FreePath t v k ys r) (sym p) q
path_append t v (a ∷ xs) ys c w r p q = (p.0, p.1, path_append t v xs ys p.0 w r p.2 q)

path_free : (t : Task) (v : ℕ) (list : List ℕ) (c r : ℕ) → FreePath t v c list r → (k : ℕ) → k < length list → is_free t v (get_or list k 0) ≡ true
path_free t v [] c r p k l = absurd (omega arith)
path_free t v (a ∷ rest) c r p zero l = p.1.free
path_free t v (a ∷ rest) c r p (suc k) l = path_free t v rest p.0 r p.2 k (omega arith)

-- v has r, and every other variable what it has in s
abbrev pub OnlyMoved : ℕ → State → ℕ → State → Type 0
OnlyMoved v s r u = (u v ≡ r) × ((w : ℕ) → (w ≡ v → ⊥) → u w ≡ s w)

module _ (t : Task) (law : Lawful t) (v : ℕ) where
  pub value_few : (x : ℕ) → t.val_live v x ≡ true → x < 64
  value_few x live = let l = law.val_in v x live in let most = law.size_most v in omega arith

  pub step_act : (u a w : ℕ) → FreeStep t v u a w → a < t.acts
  step_act u a w step = law.act_in a (law.eff_act a v w step.sets)

  -- a path from a live value ends at one
  pub path_live : (list : List ℕ) (c r : ℕ) → FreePath t v c list r → t.val_live v c ≡ true → t.val_live v r ≡ true
  path_live [] c r p live = ap (t.val_live v) (sym p) ∙ live
  path_live (a ∷ rest) c r p live = path_live rest p.0 r p.2 (law.eff_val a v p.0 p.1.sets)

  -- a free action can run where its condition on v holds
  step_runs : (s : State) (u a w : ℕ) → FreeStep t v u a w → s v ≡ u → CanRun t s a
  step_runs s u a w step e = record {
    live = (free_at t law v a step.free).live;
    holds = λ k x h. ⊎_elim
        (λ same. ap s same ∙ e ∙ agrees_at (t.pre a v) u x step.fits (ap (t.pre a) (sym same) ∙ h))
        (λ apart. none_some (t.pre a k) x ((free_at t law v a step.free).alone k apart).0 h)
        (cases_eq k v);
  }

  -- a path can be run where v has its first value, and nothing but v changes
  pub path_runs : (list : List ℕ) (s : State) (c r : ℕ) → FreePath t v c list r → s v ≡ c → Leads t s list (OnlyMoved v s r)
  path_runs [] s c r p e = (e ∙ p, λ w apart. refl)
  path_runs (a ∷ rest) s c r p e = (
    step_runs s c a p.0 p.1 e,
    leads_map t rest (after t s a) (OnlyMoved v (after t s a) r) (OnlyMoved v s r)
        (λ u moved. (moved.0, λ w apart. moved.1 w apart ∙ over_none (t.eff a w) (s w) ((free_at t law v a p.1.free).alone w apart).1))
        (path_runs rest (after t s a) p.0 r p.2 (over_some (t.eff a v) (s v) p.0 p.1.sets)),
  )

  runs_path : (list : List ℕ) (s : State) (c r : ℕ) → ((k : ℕ) → k < length list → is_free t v (get_or list k 0) ≡ true) → Leads t s list (λ u. u v ≡ r) → s v ≡ c → FreePath t v c list r
  runs_path [] s c r free runs e = sym e ∙ runs
  runs_path (a ∷ rest) s c r free runs e =
      let first = free 0 (omega arith) in
      let sets = (free_at t law v a first).sets in
      let fits = agrees_from (t.pre a v) c (λ y h. sym e ∙ runs.0.holds v y h) in (
        sets.0,
        record { free = first; fits = fits; sets = sets.1 },
        runs_path rest (after t s a) sets.0 r (λ k l. free (suc k) (omega arith)) runs.1 (over_some (t.eff a v) (s v) sets.0 sets.1),
      )

  -- the two readings of a path
  pub path_leads : (list : List ℕ) (s : State) (c r : ℕ) → FreePath t v c list r → s v ≡ c → LeadsTo t v s list r
  path_leads list s c r p e = let end = run_from t list s (OnlyMoved v s r) (path_runs list s c r p e) in record { free = path_free t v list c r p; runs = (end.0, end.1, end.2.0) }

  pub leads_path : (list : List ℕ) (s : State) (c r : ℕ) → LeadsTo t v s list r → s v ≡ c → FreePath t v c list r
  leads_path list s c r h e = let end = h.runs in runs_path list s c r h.free (run_at t law list s end.0 (λ u. u v ≡ r) end.1 end.2) e
