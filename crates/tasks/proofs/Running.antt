-- Running a list of actions, read as facts and not as tests.
use Rattle.std.proofs.Common.{◌≡◌, ℕ, Bool, true, false, List, [], ◌∷◌, ◌++◌, Some, None, Option, sym, refl, ap, ◌∙◌, subst, ⊎_elim, arith}
use Rattle.std.proofs.lemmas.Bool.{false≢true, cases_Bool}
use Rattle.tasks.specs.Task.{Task, Lawful}
use Rattle.tasks.specs.Plans.{State, can_run, after, run, ends_well, is_plan, Solvable}
use Rattle.tasks.specs.Runs.{Meets, LiveValues, CanRun}
use Rattle.tasks.proofs.Lawful.{over_both, can_run_at, can_run_from, met_at, met_from}

-- one action of a run, by its test
next : Task → State → ℕ → List ℕ → Bool → Option State
next t s a rest b = elim b [ true ↦ run t (after t s a) rest | false ↦ None ]

pub run_step : (t : Task) (s : State) (a : ℕ) (rest : List ℕ) → can_run t s a ≡ true → run t s (a ∷ rest) ≡ run t (after t s a) rest
unfolding next
run_step t s a rest e = ap (next t s a rest) e

pub run_stops : (t : Task) (s : State) (a : ℕ) (rest : List ℕ) → can_run t s a ≡ false → run t s (a ∷ rest) ≡ None
unfolding next
run_stops t s a rest e = ap (next t s a rest) e

none_state : {A : Type 0} (u : State) → ◌≡◌ {A = Option State} None (Some u) → A
none_state u e = let z : ◌≡◌ {A = ℕ} 0 1 = cc in absurd (omega arith)

-- a list after a list
pub run_append : (t : Task) (xs ys : List ℕ) (s u : State) → run t s xs ≡ Some u → run t s (xs ++ ys) ≡ run t u ys
run_append t [] ys s u e = let q : s ≡ u = cc in ap (λ (k : State). run t k ys) q
run_append t (a ∷ xs) ys s u e =
    ⊎_elim
    (λ runs. run_step t s a (xs ++ ys) runs ∙ run_append t xs ys (after t s a) u (sym (run_step t s a xs runs) ∙ e))
    (λ stops. none_state u (sym (run_stops t s a xs stops) ∙ e))
    (cases_Bool (can_run t s a))

-- the list runs from s, and P holds of the state in which it ends
abbrev pub Leads : Task → State → List ℕ → (State → Type 0) → Type 0
Leads t s [] P = P s
Leads t s (a ∷ rest) P = CanRun t s a × Leads t (after t s a) rest P

pub leads_map : (t : Task) (list : List ℕ) (s : State) (P Q : State → Type 0) → ((u : State) → P u → Q u) → Leads t s list P → Leads t s list Q
leads_map t [] s P Q f h = f s h
leads_map t (a ∷ rest) s P Q f h = (h.0, leads_map t rest (after t s a) P Q f h.1)

pub leads_append : (t : Task) (xs ys : List ℕ) (s : State) (P : State → Type 0) → Leads t s xs (λ u. Leads t u ys P) → Leads t s (xs ++ ys) P
leads_append t [] ys s P h = h
leads_append t (a ∷ xs) ys s P h = (h.0, leads_append t xs ys (after t s a) P h.1)

pub leads_parts : (t : Task) (xs ys : List ℕ) (s : State) (P : State → Type 0) → Leads t s (xs ++ ys) P → Leads t s xs (λ u. Leads t u ys P)
leads_parts t [] ys s P h = h
leads_parts t (a ∷ xs) ys s P h = (h.0, leads_parts t xs ys (after t s a) P h.1)

-- the two readings of a run
pub run_from : (t : Task) (list : List ℕ) (s : State) (P : State → Type 0) → Leads t s list P → (u : State) × (run t s list ≡ Some u) × P u
run_from t [] s P h = (s, refl, h)
run_from t (a ∷ rest) s P h =
    let r = run_from t rest (after t s a) P h.1 in
    (r.0, run_step t s a rest (can_run_from t s a h.0) ∙ r.1, r.2)

pub run_at : (t : Task) → Lawful t → (list : List ℕ) (s u : State) (P : State → Type 0) → run t s list ≡ Some u → P u → Leads t s list P
run_at t law [] s u P e h = let q : s ≡ u = cc in subst P (sym q) h
run_at t law (a ∷ rest) s u P e h =
    ⊎_elim
    (λ runs. (can_run_at t law s a runs, run_at t law rest (after t s a) u P (sym (run_step t s a rest runs) ∙ e) h))
    (λ stops. none_state u (sym (run_stops t s a rest stops) ∙ e))
    (cases_Bool (can_run t s a))

-- the two readings of a plan
pub plan_from : (t : Task) (list : List ℕ) (s : State) → Leads t s list (Meets t.goal) → ends_well t (run t s list) ≡ true
plan_from t [] s h = met_from t s h
plan_from t (a ∷ rest) s h = ap (ends_well t) (run_step t s a rest (can_run_from t s a h.0)) ∙ plan_from t rest (after t s a) h.1

pub plan_at : (t : Task) → Lawful t → (list : List ℕ) (s : State) → ends_well t (run t s list) ≡ true → Leads t s list (Meets t.goal)
plan_at t law [] s e = met_at t law s e
plan_at t law (a ∷ rest) s e =
    ⊎_elim
    (λ runs. (can_run_at t law s a runs, plan_at t law rest (after t s a) (sym (ap (ends_well t) (run_step t s a rest runs)) ∙ e)))
    (λ stops. absurd (false≢true (sym (ap (ends_well t) (run_stops t s a rest stops)) ∙ e)))
    (cases_Bool (can_run t s a))

pub solvable_at : (t : Task) → Lawful t → Solvable t → (plan : List ℕ) × Leads t t.init plan (Meets t.goal)
solvable_at t law h = (h.0, plan_at t law h.0 t.init h.1)

pub solvable_from : (t : Task) (plan : List ℕ) → Leads t t.init plan (Meets t.goal) → Solvable t
solvable_from t plan h = (plan, plan_from t plan t.init h)

-- a state that is reached from the start gives live values to live variables
pub live_init : (t : Task) → Lawful t → LiveValues t t.init
live_init t law v live = law.init_val v live

pub live_after : (t : Task) → Lawful t → (s : State) (a : ℕ) → LiveValues t s → LiveValues t (after t s a)
live_after t law s a h v live = over_both (λ x. t.val_live v x ≡ true) (t.eff a v) (s v) (λ y e. law.eff_val a v y e) (λ e. h v live)

pub leads_live : (t : Task) → Lawful t → (list : List ℕ) (s : State) (P : State → Type 0) → LiveValues t s → Leads t s list P → Leads t s list (λ u. P u × LiveValues t u)
leads_live t law [] s P live h = (h, live)
leads_live t law (a ∷ rest) s P live h = (h.0, leads_live t law rest (after t s a) P (live_after t law s a live) h.1)

-- every action of the list is live
abbrev pub AllLive : Task → List ℕ → Type 0
AllLive t [] = Unit {0}
AllLive t (a ∷ rest) = (t.act_live a ≡ true) × AllLive t rest

pub leads_all_live : (t : Task) (list : List ℕ) (s : State) (P : State → Type 0) → Leads t s list P → AllLive t list
leads_all_live t [] s P h = tt
leads_all_live t (a ∷ rest) s P h = (h.0.live, leads_all_live t rest (after t s a) P h.1)

pub plan_all_live : (t : Task) → Lawful t → (plan : List ℕ) → is_plan t plan ≡ true → AllLive t plan
plan_all_live t law plan h = leads_all_live t plan t.init (Meets t.goal) (plan_at t law plan t.init h)

pub all_live_append : (t : Task) (xs ys : List ℕ) → AllLive t xs → AllLive t ys → AllLive t (xs ++ ys)
all_live_append t [] ys p q = q
all_live_append t (x ∷ xs) ys p q = (p.0, all_live_append t xs ys p.1 q)

pub all_live_parts : (t : Task) (xs ys : List ℕ) → AllLive t (xs ++ ys) → AllLive t xs × AllLive t ys
all_live_parts t [] ys h = (tt, h)
all_live_parts t (x ∷ xs) ys h = let more = all_live_parts t xs ys h.1 in ((h.0, more.0), more.1)
