-- A plan is accepted exactly when there is a run.
use Rattle.std.proofs.Common.{◌≡◌, ℕ, zero, suc, ◌+◌, ◌<◌, ◌≤◌, Bool, true, false, List, [], ◌∷◌, length, get_or, drop, is_ok, Some, None, Ok, Err, Option, Result, sym, refl, ap, ◌∙◌, subst, ⊎_elim, add-one, arith}
use Rattle.std.proofs.lemmas.List.{at_drop_more, at_drop_all}
use Rattle.std.proofs.lemmas.Bool.{both_ways, cases_Bool}
use Rattle.tasks.specs.declared.refusal.Cause.TheVariants.{CannotRun}
use Rattle.tasks.specs.declared.refusal.Refusal.{Refusal}
use Rattle.tasks.specs.Task.{Task, Lawful}
use Rattle.tasks.specs.Plans.{State, agrees, can_run, after, run, met, ends_well, missed_goal, ended, ran_from, judged, checked_from, checked}
use Rattle.tasks.specs.Runs.{SameLive, LiveValues, Meets, CanRun, Effect, state_at, RunFrom, RunDecides}
use Rattle.tasks.proofs.Bounded.{below_from, passing_at, passing_from}
use Rattle.tasks.specs.Optional.{some_or_none}
use Rattle.tasks.proofs.Lawful.{over_some, over_none, can_run_at, can_run_from, met_at, met_from}
use Rattle.tasks.proofs.Running.{live_init, live_after}

-- one action of a run, by its test
next : Task → State → ℕ → ℕ → List ℕ → Bool → Result State ℕ
next t s i a rest b = elim b [ true ↦ ran_from t (after t s a) (suc i) rest | false ↦ Err i ]

pub ran_step : (t : Task) (s : State) (i a : ℕ) (rest : List ℕ) → can_run t s a ≡ true → ran_from t s i (a ∷ rest) ≡ ran_from t (after t s a) (suc i) rest
unfolding next
ran_step t s i a rest e = ap (next t s i a rest) e

pub ran_stops : (t : Task) (s : State) (i a : ℕ) (rest : List ℕ) → can_run t s a ≡ false → ran_from t s i (a ∷ rest) ≡ Err i
unfolding next
ran_stops t s i a rest e = ap (next t s i a rest) e

checked_step : (t : Task) (s : State) (i a : ℕ) (rest : List ℕ) → can_run t s a ≡ true → checked_from t s i (a ∷ rest) ≡ checked_from t (after t s a) (suc i) rest
checked_step t s i a rest e = ap (judged t) (ran_step t s i a rest e)

checked_stops : (t : Task) (s : State) (i a : ℕ) (rest : List ℕ) → can_run t s a ≡ false → checked_from t s i (a ∷ rest) ≡ Err (record { cause = CannotRun; place = i })
checked_stops t s i a rest e = ap (judged t) (ran_stops t s i a rest e)

err_ok : {A : Type 0} (r : Result State Refusal) (e : Refusal) (u : State) → r ≡ Err e → r ≡ Ok u → A
err_ok r e u p q = let z : ◌≡◌ {A = ℕ} 0 1 = cc in absurd (omega arith)

ended_ok : (s u : State) (o : Option ℕ) → ended s o ≡ Ok u → (o ≡ None) × (s ≡ u)
ended_ok s u None e = (refl, (cc))
ended_ok s u (Some v) e = err_ok (ended s (Some v)) _ u refl e

module _ (t : Task) (law : Lawful t) where
  -- an effect is what running the action makes of the live variables
  effect_from : (s : State) (a : ℕ) (u : State) → SameLive t u (after t s a) → Effect t s a u
  effect_from s a u same = record {
    sets = λ v x e. same v (law.val_var v x (law.eff_val a v x e)) ∙ over_some (t.eff a v) (s v) x e;
    leaves = λ v live e. same v live ∙ over_none (t.eff a v) (s v) e;
  }

  effect_at : (s u r : State) (a : ℕ) → SameLive t s r → Effect t s a u → SameLive t u (after t r a)
  effect_at s u r a same h v live =
      ⊎_elim
      (λ sets. h.sets v sets.0 sets.1 ∙ sym (over_some (t.eff a v) (r v) sets.0 sets.1))
      (λ leaves. h.leaves v live leaves ∙ same v live ∙ sym (over_none (t.eff a v) (r v) leaves))
      (some_or_none (t.eff a v))

  meets_same : (s u : State) (asked : ℕ → Option ℕ) → ((v x : ℕ) → asked v ≡ Some x → t.val_live v x ≡ true) → SameLive t s u → Meets asked s → Meets asked u
  meets_same s u asked live same h v x e = sym (same v (law.val_var v x (live v x e))) ∙ h v x e

  -- the run of one action more
  longer : (s : State) (a : ℕ) (plan : List ℕ) (states : List State) → LiveValues t s → CanRun t s a → RunFrom t (after t s a) plan states → RunFrom t s (a ∷ plan) (s ∷ states)
  longer s a plan states live runs h = record {
    one_more = ap suc h.one_more;
    starts = λ v l. refl;
    values = values;
    runs = can;
    moves = moves;
    goals = h.goals;
  }
    where
      values : (i : ℕ) → i < suc (length states) → LiveValues t (state_at (s ∷ states) i)
      values zero l = live
      values (suc i) l = h.values i (omega arith)

      can : (i : ℕ) → i < suc (length plan) → CanRun t (state_at (s ∷ states) i) (get_or (a ∷ plan) i 0)
      can zero l = runs
      can (suc i) l = h.runs i (omega arith)

      moves : (i : ℕ) → i < suc (length plan) → Effect t (state_at (s ∷ states) i) (get_or (a ∷ plan) i 0) (state_at states i)
      moves zero l = effect_from s a (state_at states 0) h.starts
      moves (suc i) l = h.moves i (omega arith)

  -- what is accepted has a run
  Ran : State → List ℕ → State → Type 0
  Ran s plan u = (states : List State) × RunFrom t s plan states × SameLive t u (state_at states (length plan))

  run_of : (plan : List ℕ) (s u : State) (i : ℕ) → LiveValues t s → checked_from t s i plan ≡ Ok u → Ran s plan u
  unfolding Ran
  run_of [] s u i live e =
      let both = ended_ok s u (missed_goal t s) e in (
        s ∷ [],
        record {
          one_more = refl;
          starts = λ v l. refl;
          values = only;
          runs = λ k l. absurd (omega arith);
          moves = λ k l. absurd (omega arith);
          goals = met_at t law s (below_from t.vars (λ v. agrees (t.goal v) (s v)) (passing_at (λ v. agrees (t.goal v) (s v)) t.vars both.0));
        },
        λ v l. sym (ap (λ (k : State). k v) both.1),
      )
    where
      only : (k : ℕ) → k < 1 → LiveValues t (state_at (s ∷ []) k)
      only zero l = live
      only (suc k) l = absurd (omega arith)
  run_of (a ∷ rest) s u i live e =
      ⊎_elim
      (λ runs.
      let more = run_of rest (after t s a) u (suc i) (live_after t law s a live) (sym (checked_step t s i a rest runs) ∙ e) in
      (s ∷ more.0, longer s a rest more.0 live (can_run_at t law s a runs) more.1, more.2))
      (λ stops. err_ok (checked_from t s i (a ∷ rest)) _ u (checked_stops t s i a rest stops) e)
      (cases_Bool (can_run t s a))

  -- what has a run is accepted
  accepted_of : (plan : List ℕ) (states : List State) (s : State) (i : ℕ) → RunFrom t s plan states → is_ok (checked_from t s i plan) ≡ true
  accepted_of [] states s i h =
      let goals = meets_same (state_at states 0) s t.goal law.goal_val h.starts h.goals in
      ap (λ (o : Option ℕ). is_ok (ended s o)) (passing_from (λ v. agrees (t.goal v) (s v)) t.vars (met_from t s goals))
  accepted_of (a ∷ rest) [] s i h = let e = h.one_more in absurd (omega arith)
  accepted_of (a ∷ rest) (u ∷ us) s i h =
      let first = h.runs 0 (omega arith) in
      let runs = can_run_from t s a (record { live = first.live; holds = meets_same u s (t.pre a) (law.pre_val a) h.starts first.holds }) in
      ap (λ (r : Result State Refusal). is_ok r) (checked_step t s i a rest runs) ∙ accepted_of rest us (after t s a) (suc i) (record {
        one_more = let e = h.one_more in omega arith;
        starts = effect_at u (state_at us 0) s a h.starts (h.moves 0 (omega arith));
        values = λ k l. h.values (suc k) (omega arith);
        runs = λ k l. h.runs (suc k) (omega arith);
        moves = λ k l. h.moves (suc k) (omega arith);
        goals = h.goals;
      })

  pub run_decides : (plan : List ℕ) → RunDecides t plan (checked t plan)
  unfolding Ran
  run_decides plan = go (checked t plan) refl
    where
      go : (r : Result State Refusal) → checked t plan ≡ r → RunDecides t plan r
      go (Ok u) e = run_of plan t.init u 0 (live_init t law) e
      go (Err x) e = λ states h. both_ways (is_ok (checked t plan)) (ap (λ (r : Result State Refusal). is_ok r) e) (accepted_of plan states t.init 0 h)

-- a list is accepted exactly when it is a plan
pub accepted_is_plan : (t : Task) (list : List ℕ) (s : State) (i : ℕ) → is_ok (checked_from t s i list) ≡ ends_well t (run t s list)
accepted_is_plan t [] s i = go (met t s) refl
  where
    go : (b : Bool) → met t s ≡ b → is_ok (ended s (missed_goal t s)) ≡ met t s
    go true e = ap (λ (o : Option ℕ). is_ok (ended s o)) (passing_from (λ v. agrees (t.goal v) (s v)) t.vars e) ∙ sym e
    go false e = fails (missed_goal t s) refl
      where
        fails : (o : Option ℕ) → missed_goal t s ≡ o → is_ok (ended s (missed_goal t s)) ≡ met t s
        fails None q = absurd (both_ways (met t s) e (below_from t.vars (λ v. agrees (t.goal v) (s v)) (passing_at (λ v. agrees (t.goal v) (s v)) t.vars q)))
        fails (Some v) q = ap (λ (o : Option ℕ). is_ok (ended s o)) q ∙ sym e
accepted_is_plan t (a ∷ rest) s i = go (can_run t s a) (accepted_is_plan t rest (after t s a) (suc i))
  where
    go : (b : Bool) → is_ok (checked_from t (after t s a) (suc i) rest) ≡ ends_well t (run t (after t s a) rest) → is_ok (judged t (elim b [ true ↦ ran_from t (after t s a) (suc i) rest | false ↦ Err i ])) ≡ ends_well t (elim b [ true ↦ run t (after t s a) rest | false ↦ None ])
    go true more = more
    go false more = refl

-- the turns of a loop that runs a list, at place i
module _ (t : Task) (s : State) (i : ℕ) (list : List ℕ) where
  pub ran_more : (u : State) → i < length list → can_run t s (get_or list i 0) ≡ true → u ≡ after t s (get_or list i 0) → ran_from t u (i + 1) (drop (i + 1) list) ≡ ran_from t s i (drop i list)
  ran_more u l runs e =
      ap (λ (k : State). ran_from t k (i + 1) (drop (i + 1) list)) e
      ∙ ap (λ (k : ℕ). ran_from t (after t s (get_or list i 0)) k (drop (i + 1) list)) (add-one i)
      ∙ sym (ran_step t s i (get_or list i 0) (drop (i + 1) list) runs)
      ∙ sym (at_drop_more (ran_from t s i) list i 0 l)

  pub ran_here : i < length list → can_run t s (get_or list i 0) ≡ false → ran_from t s i (drop i list) ≡ Err i
  ran_here l stops = at_drop_more (ran_from t s i) list i 0 l ∙ ran_stops t s i (get_or list i 0) (drop (i + 1) list) stops

  pub ran_end : length list ≤ i → ran_from t s i (drop i list) ≡ Ok s
  ran_end l = at_drop_all (ran_from t s i) list i l

pub decided : (t : Task) → Lawful t → (plan : List ℕ) (r : Result State Refusal) → r ≡ checked t plan → RunDecides t plan r
decided t law plan r e = subst (RunDecides t plan) (sym e) (run_decides t law plan)
