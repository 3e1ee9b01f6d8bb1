-- An action that no longer requires a value of v, exchanged where v has the one that another action requires.
use Rattle.std.proofs.Common.{◌≡◌, ℕ, true, false, not, ◌&&◌, eqb, List, [], ◌∷◌, Some, None, sym, refl, ap, ◌∙◌, subst, ap₂, ⊎_elim}
use Rattle.std.proofs.lemmas.Bool.{both_ways, and_parts, and_left, and_right, not_from_false, eqb-true, eq-eqb, ne_eqb, cases_eq, cond-true, cond_both}
use Rattle.tasks.specs.Task.{Task, Priced, Lawful}
use Rattle.tasks.specs.Plans.{State, over, after, run, ends_well, is_plan}
use Rattle.tasks.specs.Runs.{Meets, CanRun}
use Rattle.tasks.specs.Optional.{some_inj}
use Rattle.tasks.proofs.Lawful.{over_both, pre_below, goal_below}
use Rattle.tasks.proofs.Running.{Leads, plan_from}
use Rattle.reductions.specs.Steps.{generalise, has_value}
use Rattle.reductions.specs.Acceptance.{accepted}
use Rattle.reductions.specs.Applying.{precondition_dropped, applied}
use Rattle.reductions.specs.Undoing.{specialised}
use Rattle.reductions.proofs.Weaving.{Begins, begins, meets_in}
use Rattle.reductions.proofs.Hiding.{kept}
use Rattle.reductions.proofs.Absent.{has_value_at}
use Rattle.reductions.proofs.GeneraliseDown.{Generalises, generalise_at}
use Rattle.reductions.proofs.OnlyValue.{only_other}

module _ (p : Priced) (law : Lawful p.task) (v a b : ℕ) (g : Generalises p v a b) where
  abbrev t : Task
  t = p.task

  abbrev u : Task
  u = (applied p (generalise v a b)).task

  -- v has the value that a requires where it has not the one that b requires
  other_value : (c : ℕ) → t.val_live v c ≡ true → has_value c (t.pre b v) ≡ false → (x : ℕ) → t.pre a v ≡ Some x → c ≡ x
  other_value c live h x e =
      let d = g.differ in
      let live-x = law.pre_val a v d.0 d.2 in
      let live-y = law.pre_val b v d.1 d.3 in
      only_other t v (t.size v) d.0 d.1 c g.two (law.val_in v d.0 live-x) (law.val_in v d.1 live-y) (law.val_in v c live) live-x live-y live d.4
      (λ same. both_ways (has_value c (t.pre b v)) h (ap (has_value c) d.3 ∙ eq-eqb c d.1 same))
      ∙ some_inj d.0 x (sym d.2 ∙ e)

  same_pre : (d w : ℕ) → u.act_live d ≡ true → (eqb d a && eqb w v) ≡ false → u.pre d w ≡ t.pre d w
  same_pre d w h e = kept (t.act_live d) (not (eqb d b)) true ((precondition_dropped t v a).pre d w) h refl ∙ cond-true (not (eqb d a && eqb w v)) (t.pre d w) None (not_from_false (eqb d a && eqb w v) e)

  -- an action of the plan runs as it is
  runs_same : (d : ℕ) (rest : List ℕ) (s s' : State) (c : ℕ) → s v ≡ c → t.val_live v c ≡ true → ((w : ℕ) → s' w ≡ s w) → Begins u s' d rest → (eqb d a && has_value c (t.pre b v)) ≡ false → CanRun t s d
  runs_same d rest s s' c at live same first h = record {
    live = (and_parts (t.act_live d) (not (eqb d b)) first.live).0;
    holds = λ w x e.
        let plain : (eqb d a && eqb w v) ≡ false → s w ≡ x = λ k. sym (same w) ∙ first.holds w x (pre_below t law d w x e) (same_pre d w first.live k ∙ e) in
        ⊎_elim
        (λ here. ⊎_elim
        (λ is-a.
        let miss : has_value c (t.pre b v) ≡ false = sym (ap (λ q. q && has_value c (t.pre b v)) (eq-eqb d a is-a)) ∙ h in
        ap s here ∙ at ∙ other_value c live miss x (ap₂ t.pre (sym is-a) (sym here) ∙ e))
        (λ not_a. plain (and_left (eqb d a) (eqb w v) (ne_eqb d a not_a)))
        (cases_eq d a))
        (λ apart. plain (and_right (eqb d a) (eqb w v) (ne_eqb w v apart)))
        (cases_eq w v);
  }

  -- b runs in the place of a
  runs_other : (rest : List ℕ) (s s' : State) (c : ℕ) → s v ≡ c → ((w : ℕ) → s' w ≡ s w) → Begins u s' a rest → t.pre b v ≡ Some c → CanRun t s b
  runs_other rest s s' c at same first k = record {
    live = g.b_live;
    holds = λ w x e. ⊎_elim
        (λ here. ap s here ∙ at ∙ some_inj c x (sym k ∙ ap (t.pre b) (sym here) ∙ e))
        (λ apart. sym (same w) ∙ first.holds w x (pre_below t law b w x e) (same_pre a w first.live (and_right (eqb a a) (eqb w v) (ne_eqb w v apart)) ∙ g.same_pre w apart ∙ e))
        (cases_eq w v);
  }

  specialised_leads : (list : List ℕ) (s s' : State) (c : ℕ) → s v ≡ c → t.val_live v c ≡ true → ((w : ℕ) → s' w ≡ s w) → ends_well u (run u s' list) ≡ true → Leads t s (specialised t v a b c list) (Meets t.goal)
  specialised_leads [] s s' c at live same h = λ w x e. sym (same w) ∙ meets_in t.vars t.goal s' h w x (goal_below t law w x e) e
  specialised_leads (d ∷ rest) s s' c at live same h =
      let first = begins u s' d rest h in
      let next = over (t.eff d v) c in
      let more : (e : ℕ) → ((w : ℕ) → t.eff d w ≡ t.eff e w) → Leads t (after t s e) (specialised t v a b next rest) (Meets t.goal) = λ e eff.
      specialised_leads rest (after t s e) (after u s' d) next (ap₂ over (sym (eff v)) at)
      (over_both (λ k. t.val_live v k ≡ true) (t.eff d v) c (λ x f. law.eff_val d v x f) (λ f. live))
      (λ w. ap₂ over (kept (t.act_live d) (not (eqb d b)) true (t.eff d w) first.live refl ∙ eff w) (same w)) first.goes_on in
      cond_both (eqb d a && has_value c (t.pre b v)) b d (λ k. CanRun t s k × Leads t (after t s k) (specialised t v a b next rest) (Meets t.goal))
      (λ e.
      let both = and_parts (eqb d a) (has_value c (t.pre b v)) e in
      let is-a = eqb-true d a both.0 in
      (runs_other rest s s' c at same (subst (λ k. Begins u s' k rest) is-a first) (has_value_at c (t.pre b v) both.1), more b (λ w. ap (λ k. t.eff k w) is-a ∙ g.same_eff w)))
      (λ e. (runs_same d rest s s' c at live same first e, more d (λ w. refl)))

pub generalise_plan : (p : Priced) (v a b : ℕ) → Lawful p.task → accepted p (generalise v a b) ≡ true → (plan : List ℕ) → is_plan (applied p (generalise v a b)).task plan ≡ true → is_plan p.task (specialised p.task v a b (p.task.init v) plan) ≡ true
generalise_plan p v a b law ok plan h =
    let g = generalise_at p v a b law ok in
    plan_from p.task (specialised p.task v a b (p.task.init v) plan) p.task.init
    (specialised_leads p law v a b g plan p.task.init p.task.init (p.task.init v) refl (law.init_val v g.v_live) (λ w. refl) h)
