-- A plan goes over to a task that simulates another, and so to one in which actions and variables are retired, which stays lawful.
use Rattle.std.proofs.Common.{◌≡◌, ℕ, Bool, true, false, cond, ◌&&◌, List, [], ◌∷◌, ◌++◌, Some, None, Option, sym, refl, ap, ◌∙◌, ⊎_elim}
use Rattle.std.proofs.lemmas.Bool.{true≢false, and_parts, and_from, and_cases, cond-true, cond_both}
use Rattle.tasks.specs.Task.{Task, Lawful}
use Rattle.tasks.specs.Plans.{State, over, after, Solvable}
use Rattle.tasks.specs.Runs.{Meets, CanRun}
use Rattle.tasks.specs.Optional.{guard_some}
use Rattle.tasks.proofs.Running.{Leads, leads_map, leads_append, solvable_at, solvable_from}
use Rattle.reductions.specs.Applying.{kept_if, without}

-- t' follows each action of t by a list of its own, such that the two states stay related
pub record Simulation (t t' : Task) (R : State → State → Type 0) : Type 0 where
  pub list_for : ℕ → List ℕ
  pub starts : R t.init t'.init
  pub follows : (s s' : State) (a : ℕ) → R s s' → CanRun t s a → Leads t' s' (list_for a) (R (after t s a))
  pub ends : (s s' : State) → R s s' → Meets t.goal s → Meets t'.goal s'

abbrev joined : (ℕ → List ℕ) → List ℕ → List ℕ
joined f [] = []
joined f (a ∷ rest) = f a ++ joined f rest

module _ (t t' : Task) (R : State → State → Type 0) (sim : Simulation t t' R) where
  followed : (list : List ℕ) (s s' : State) → R s s' → Leads t s list (Meets t.goal) → Leads t' s' (joined sim.list_for list) (Meets t'.goal)
  followed [] s s' r h = sim.ends s s' r h
  followed (a ∷ rest) s s' r h =
      let rest' = joined sim.list_for rest in
      leads_append t' (sim.list_for a) rest' s' (Meets t'.goal)
      (leads_map t' (sim.list_for a) s' (R (after t s a)) (λ u. Leads t' u rest' (Meets t'.goal)) (λ u q. followed rest (after t s a) u q h.1) (sim.follows s s' a r h.0))

  pub simulated : Lawful t → Solvable t → Solvable t'
  simulated law h =
      let plan = solvable_at t law h in
      solvable_from t' (joined sim.list_for plan.0) (followed plan.0 t.init t'.init sim.starts plan.1)

-- the two states agree on the variables that stay
abbrev pub AgreeOn : (ℕ → Bool) → State → State → Type 0
AgreeOn var s s' = (w : ℕ) → var w ≡ true → s' w ≡ s w

module _ (t : Task) (act var : ℕ → Bool) where
  pub retiring_lawful : Lawful t → Lawful (without t act var)
  retiring_lawful law = record {
    few_vars = law.few_vars;
    few_acts = law.few_acts;
    size_some = law.size_some;
    size_most = law.size_most;
    size_none = law.size_none;
    var_in = λ v e. law.var_in v (and_parts (t.var_live v) (var v) e).0;
    act_in = λ a e. law.act_in a (and_parts (t.act_live a) (act a) e).0;
    val_in = λ v x e. law.val_in v x (and_parts (t.val_live v x) (var v) e).0;
    val_var = λ v x e. let both = and_parts (t.val_live v x) (var v) e in and_from (t.var_live v) (var v) (law.val_var v x both.0) both.1;
    pre_act = λ a v x e. let k = kept a v (t.pre a v) x e in and_from (t.act_live a) (act a) (law.pre_act a v x k.2) k.0;
    pre_val = λ a v x e. let k = kept a v (t.pre a v) x e in and_from (t.val_live v x) (var v) (law.pre_val a v x k.2) k.1;
    eff_act = λ a v x e. let k = kept a v (t.eff a v) x e in and_from (t.act_live a) (act a) (law.eff_act a v x k.2) k.0;
    eff_val = λ a v x e. let k = kept a v (t.eff a v) x e in and_from (t.val_live v x) (var v) (law.eff_val a v x k.2) k.1;
    goal_val = λ v x e. let k = guard_some (var v) (t.goal v) x e in and_from (t.val_live v x) (var v) (law.goal_val v x k.1) k.0;
    init_val = λ v e.
        let both = and_parts (t.var_live v) (var v) e in
        and_from (t.val_live v (cond (var v) (t.init v) 0)) (var v) (ap (t.val_live v) (cond-true (var v) (t.init v) 0 both.1) ∙ law.init_val v both.0) both.1;
    init_none = λ v e. cond_both (var v) (t.init v) 0 (λ x. x ≡ 0)
        (λ stays. law.init_none v (⊎_elim (λ h. h) (λ h. absurd (true≢false (sym stays ∙ h))) (and_cases (t.var_live v) (var v) e)))
        (λ retired. refl);
  }
    where
      kept : (a v : ℕ) (o : Option ℕ) (x : ℕ) → kept_if (act a && var v) o ≡ Some x → (act a ≡ true) × (var v ≡ true) × (o ≡ Some x)
      kept a v o x e =
          let k = guard_some (act a && var v) o x e in
          let both = and_parts (act a) (var v) k.0 in
          (both.0, both.1, k.1)

  pub retained_eff : (c w : ℕ) → act c ≡ true → var w ≡ true → (without t act var).eff c w ≡ t.eff c w
  retained_eff c w stays here = cond-true (act c && var w) (t.eff c w) None (and_from (act c) (var w) stays here)

  -- an action that stays does what it did
  retained_leads : (s s' : State) (c : ℕ) → act c ≡ true → AgreeOn var s s' → CanRun t s c → Leads (without t act var) s' (c ∷ []) (AgreeOn var (after t s c))
  retained_leads s s' c stays agree runs = (
    record {
      live = and_from (t.act_live c) (act c) runs.live stays;
      holds = λ v x e.
          let k = guard_some (act c && var v) (t.pre c v) x e in
          agree v (and_parts (act c) (var v) k.0).1 ∙ runs.holds v x k.1;
    },
    λ w here. ap (λ (o : Option ℕ). over o (s' w)) (retained_eff c w stays here) ∙ ap (over (t.eff c w)) (agree w here),
  )

  -- a plan goes over where a list stands in for each action that is retired
  pub retiring_solvable : (stand-in : ℕ → List ℕ) → ((s s' : State) (c : ℕ) → act c ≡ false → AgreeOn var s s' → CanRun t s c → Leads (without t act var) s' (stand-in c) (AgreeOn var (after t s c))) → Lawful t → Solvable t → Solvable (without t act var)
  retiring_solvable stand-in stands = simulated t (without t act var) (AgreeOn var) (record {
    list_for = λ c. cond (act c) (c ∷ []) (stand-in c);
    starts = λ w here. cond-true (var w) (t.init w) 0 here;
    follows = λ s s' c agree runs. cond_both (act c) (c ∷ []) (stand-in c) (λ list. Leads (without t act var) s' list (AgreeOn var (after t s c)))
        (λ stays. retained_leads s s' c stays agree runs)
        (λ retired. stands s s' c retired agree runs);
    ends = λ s s' agree met v x e. let k = guard_some (var v) (t.goal v) x e in agree v k.0 ∙ met v x k.1;
  })
