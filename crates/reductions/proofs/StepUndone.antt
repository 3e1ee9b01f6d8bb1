-- One step undone: a plan of the task after it becomes one of the task before it.
use Rattle.std.proofs.Common.{◌≡◌, ℕ, ◌+◌, true, not, eqb, List, [], ◌∷◌, length, sym, refl, ap, ◌∙◌, add-zero, arith}
use Rattle.std.proofs.lemmas.Bool.{and_parts, eqb-true, ne_eqb, not_from_false, cond-true}
use Rattle.tasks.specs.Task.{Task, Priced, Lawful}
use Rattle.tasks.specs.Plans.{State, after, run, ends_well, is_plan}
use Rattle.tasks.specs.Measures.{CostAlgebra, CostLaws}
use Rattle.tasks.specs.Totals.{total}
use Rattle.tasks.proofs.Lawful.{val_below}
use Rattle.tasks.proofs.Running.{AllLive}
use Rattle.tasks.proofs.CostAlgebras.{join_nothing, total_priced}
use Rattle.reductions.specs.Reaching.{connected}
use Rattle.reductions.specs.Steps.{Step, merge, generalise, variable, action, abstract, live_values}
use Rattle.reductions.specs.Acceptance.{accepted}
use Rattle.reductions.specs.Applying.{every, retains, applied}
use Rattle.reductions.specs.Undoing.{merge_connector, detour_connector, undone, inserted}
use Rattle.reductions.specs.StepLaws.{ConnectedDecides, UndoingSound}
use Rattle.reductions.proofs.Weaving.{begins}
use Rattle.reductions.proofs.Hiding.{refined_plan, same_plan}
use Rattle.reductions.proofs.Bringing.{detours_bring}
use Rattle.reductions.proofs.Merging.{merge_plan}
use Rattle.reductions.proofs.OnlyValue.{only_one}
use Rattle.reductions.proofs.Exchanging.{generalise_plan}
use Rattle.reductions.proofs.GeneraliseDown.{generalise_at}
use Rattle.reductions.proofs.InsertedTotals.{total_refined, length_refined, live_insertions, total_specialised, length_specialised}

-- an action that is live after a step is live before it, and the step retains it
pub live_before : (p : Priced) (s : Step) (c : ℕ) → (applied p s).task.act_live c ≡ true → (p.task.act_live c ≡ true) × (retains p.task s c ≡ true)
live_before p (merge v x y a b) c h = and_parts (p.task.act_live c) (retains p.task (merge v x y a b) c) h
live_before p (generalise v a b) c h = and_parts (p.task.act_live c) (retains p.task (generalise v a b) c) h
live_before p (variable v) c h = and_parts (p.task.act_live c) (retains p.task (variable v) c) h
live_before p (action a by) c h = and_parts (p.task.act_live c) (retains p.task (action a by) c) h
live_before p (abstract v) c h = and_parts (p.task.act_live c) (retains p.task (abstract v) c) h

-- the actions of a plan are live, in a task that need not be lawful
plan_live : (u : Task) (list : List ℕ) (s : State) → ends_well u (run u s list) ≡ true → AllLive u list
plan_live u [] s h = tt
plan_live u (a ∷ rest) s h = let first = begins u s a rest h in (first.live, plan_live u rest (after u s a) first.goes_on)

others_stay : (v w : ℕ) → (w ≡ v → ⊥) → not (eqb w v) ≡ true
others_stay v w apart = not_from_false (eqb w v) (ne_eqb w v apart)

module _ {S : Type 0} (m : CostAlgebra S) where
  undone_plan : CostLaws m → ConnectedDecides → (p : Priced) (s : Step) → Lawful p.task → accepted p s ≡ true → (plan : List ℕ) → is_plan (applied p s).task plan ≡ true → is_plan p.task (undone m p s plan) ≡ true
  undone_plan laws decides p (merge v x y a b) law ok plan h = merge_plan p v x y a b law ok plan h
  undone_plan laws decides p (generalise v a b) law ok plan h = generalise_plan p v a b law ok plan h
  undone_plan laws decides p (variable v) law ok plan h =
      let t = p.task in
      let one = eqb-true (live_values t v (t.size v)) 1 (and_parts (t.var_live v) (eqb (live_values t v (t.size v)) 1) ok).1 in
      same_plan t law v every (λ w. not (eqb w v)) (others_stay v) (λ c r live-c live-r. only_one t v (t.size v) c r one (law.val_in v c live-c) (law.val_in v r live-r) live-c live-r) plan h
  undone_plan laws decides p (action a by) law ok plan h =
      let t = p.task in
      same_plan t law t.vars (retains t (action a by)) every (λ w apart. refl) (λ c r live-c live-r. let l = val_below t law t.vars c live-c in absurd (omega arith)) plan h
  undone_plan laws decides p (abstract v) law ok plan h =
      let t = p.task in
      refined_plan t law v (retains t (abstract v)) (λ w. not (eqb w v)) (others_stay v) (detour_connector m p v) (detours_bring m decides laws p law v (and_parts (t.var_live v) (connected t v) ok).1) plan h

  length_undone : (p : Priced) (s : Step) (plan : List ℕ) → length (undone m p s plan) ≡ length plan + length (inserted m p s plan)
  length_undone p (merge v x y a b) plan = length_refined (merge_connector x y a b) p.task v plan (p.task.init v)
  length_undone p (generalise v a b) plan = length_specialised p.task v a b plan (p.task.init v) ∙ sym (add-zero (length plan))
  length_undone p (variable v) plan = sym (add-zero (length plan))
  length_undone p (action a by) plan = sym (add-zero (length plan))
  length_undone p (abstract v) plan = length_refined (detour_connector m p v) p.task v plan (p.task.init v)

  -- what is inserted is live where the whole is
  pub live_inserted : (u : Task) (p : Priced) (s : Step) (plan : List ℕ) → AllLive u (undone m p s plan) → AllLive u (inserted m p s plan)
  live_inserted u p (merge v x y a b) plan h = live_insertions (merge_connector x y a b) p.task v u plan (p.task.init v) h
  live_inserted u p (generalise v a b) plan h = tt
  live_inserted u p (variable v) plan h = tt
  live_inserted u p (action a by) plan h = tt
  live_inserted u p (abstract v) plan h = live_insertions (detour_connector m p v) p.task v u plan (p.task.init v) h

  module _ (laws : CostLaws m) where
    -- at the prices before the step
    total_undone : (p : Priced) (s : Step) → Lawful p.task → accepted p s ≡ true → (plan : List ℕ) → total m p (undone m p s plan) ≡ m.join (total m p plan) (total m p (inserted m p s plan))
    total_undone p (merge v x y a b) law ok plan = total_refined (merge_connector x y a b) p.task v m laws p plan (p.task.init v)
    total_undone p (generalise v a b) law ok plan = total_specialised p.task v a b m p (generalise_at p v a b law ok).same_price plan (p.task.init v) ∙ sym (join_nothing m laws (total m p plan))
    total_undone p (variable v) law ok plan = sym (join_nothing m laws (total m p plan))
    total_undone p (action a by) law ok plan = sym (join_nothing m laws (total m p plan))
    total_undone p (abstract v) law ok plan = total_refined (detour_connector m p v) p.task v m laws p plan (p.task.init v)

    -- an action that stays keeps its price
    pub total_after : (p : Priced) (s : Step) (list : List ℕ) → AllLive (applied p s).task list → total m p list ≡ total m (applied p s) list
    total_after p s list h = total_priced m laws p (applied p s) (λ a live. sym (cond-true (retains p.task s a) (p.price a) 0 (live_before p s a live).1)) list h

pub undoing_sound : {S : Type 0} (m : CostAlgebra S) → ConnectedDecides → UndoingSound m
undoing_sound m decides laws p s law ok plan h = record {
  is_a_plan = undone_plan m laws decides p s law ok plan h;
  joins = total_undone m laws p s law ok plan ∙ ap (λ k. m.join k (total m p (inserted m p s plan))) (total_after m laws p s plan (plan_live (applied p s).task plan (applied p s).task.init h));
  counts = length_undone m p s plan;
}
