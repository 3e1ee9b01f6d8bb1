-- A plan of a task, with detours of one variable woven in, is a plan of the task that it abstracts.
use Rattle.std.proofs.Common.{◌≡◌, ℕ, ◌<◌, true, List, [], ◌∷◌, Some, None, Option, sym, refl, ap, ◌∙◌, ap₂, ⊎_elim}
use Rattle.std.proofs.lemmas.Bool.{false≢true, and_parts, cases_eq, cases_Bool}
use Rattle.tasks.specs.Bounds.{all_below}
use Rattle.tasks.specs.Task.{Task, Lawful}
use Rattle.tasks.specs.Plans.{State, agrees, over, can_run, after, run, ends_well}
use Rattle.tasks.specs.Runs.{Meets}
use Rattle.tasks.proofs.Bounded.{below_at}
use Rattle.tasks.proofs.Lawful.{over_some, over_both, agrees_at, pre_below, goal_below}
use Rattle.tasks.proofs.Running.{run_step, run_stops, Leads, leads_map, leads_append}
use Rattle.detours.proofs.FreePaths.{FreePath, OnlyMoved, path_runs}
use Rattle.reductions.specs.Undoing.{Connector, connect, refined}

-- s gives every value that is asked of a variable below n
abbrev pub MeetsBelow : ℕ → (ℕ → Option ℕ) → State → Type 0
MeetsBelow n asked s = (w x : ℕ) → w < n → asked w ≡ Some x → s w ≡ x

pub meets_in : (n : ℕ) (asked : ℕ → Option ℕ) (s : State) → all_below n (λ w. agrees (asked w) (s w)) ≡ true → MeetsBelow n asked s
meets_in n asked s h w x l e = agrees_at (asked w) (s w) x (below_at n (λ k. agrees (asked k) (s k)) h w l) e

-- the first action of a plan can run, and the others go on from there; the task need not be lawful
pub record Begins (u : Task) (s : State) (a : ℕ) (rest : List ℕ) : Type 0 where
  pub live : u.act_live a ≡ true
  pub holds : MeetsBelow u.vars (u.pre a) s
  pub goes_on : ends_well u (run u (after u s a) rest) ≡ true

pub begins : (u : Task) (s : State) (a : ℕ) (rest : List ℕ) → ends_well u (run u s (a ∷ rest)) ≡ true → Begins u s a rest
begins u s a rest h =
    ⊎_elim
    (λ runs.
    let both = and_parts (u.act_live a) (all_below u.vars (λ w. agrees (u.pre a w) (s w))) runs in
    record { live = both.0; holds = meets_in u.vars (u.pre a) s both.1; goes_on = sym (ap (ends_well u) (run_step u s a rest runs)) ∙ h })
    (λ stops. absurd (false≢true (sym (ap (ends_well u) (run_stops u s a rest stops)) ∙ h)))
    (cases_Bool (can_run u s a))

-- free actions bring v from each live value to every other
abbrev pub Brings : Task → ℕ → Connector → Type 0
Brings t v bring = (c r : ℕ) → t.val_live v c ≡ true → t.val_live v r ≡ true → FreePath t v c (bring c r) r

-- u is t but for what it says of v; Rel says which values v may have in a state of t and in the one of u that stands for it
pub record Abstracts (t u : Task) (v : ℕ) (bring : Connector) (Rel : ℕ → ℕ → Type 0) : Type 0 where
  pub inside : (w : ℕ) → w < t.vars → w < u.vars
  pub live : (a : ℕ) → u.act_live a ≡ true → t.act_live a ≡ true
  pub pre_other : (a w : ℕ) → u.act_live a ≡ true → (w ≡ v → ⊥) → u.pre a w ≡ t.pre a w
  pub eff_other : (a w : ℕ) → u.act_live a ≡ true → (w ≡ v → ⊥) → u.eff a w ≡ t.eff a w
  pub goal_other : (w : ℕ) → (w ≡ v → ⊥) → u.goal w ≡ t.goal w
  -- v can be brought to what is asked of it
  pub pre_here : (a c d : ℕ) → u.act_live a ≡ true → Rel c d → ((x : ℕ) → u.pre a v ≡ Some x → d ≡ x) → (r : ℕ) → t.pre a v ≡ Some r → FreePath t v c (bring c r) r × Rel r d
  pub eff_here : (a c d : ℕ) → u.act_live a ≡ true → Rel c d → Rel (over (t.eff a v) c) (over (u.eff a v) d)
  pub goal_here : (c d : ℕ) → Rel c d → ((x : ℕ) → u.goal v ≡ Some x → d ≡ x) → (r : ℕ) → t.goal v ≡ Some r → FreePath t v c (bring c r) r

module _ (t u : Task) (law : Lawful t) (v : ℕ) (bring : Connector) (Rel : ℕ → ℕ → Type 0) (above : Abstracts t u v bring Rel) where
  connect_path : (c : ℕ) (o : Option ℕ) → ((r : ℕ) → o ≡ Some r → FreePath t v c (bring c r) r) → FreePath t v c (connect bring c o) (over o c)
  connect_path c None paths = refl
  connect_path c (Some r) paths = paths r refl

  -- what is asked holds once v is brought there
  brought : (asked asked' : ℕ → Option ℕ) → ((w x : ℕ) → asked w ≡ Some x → w < t.vars) → ((w : ℕ) → (w ≡ v → ⊥) → asked' w ≡ asked w) → (s s' f : State) (c : ℕ) → ((w : ℕ) → (w ≡ v → ⊥) → s' w ≡ s w) → MeetsBelow u.vars asked' s' → OnlyMoved v s (over (asked v) c) f → Meets asked f
  brought asked asked' within other s s' f c same meets moved w x e =
      ⊎_elim
      (λ here. ap f here ∙ moved.0 ∙ over_some (asked v) c x (ap asked (sym here) ∙ e))
      (λ apart. moved.1 w apart ∙ sym (same w apart) ∙ meets w x (above.inside w (within w x e)) (other w apart ∙ e))
      (cases_eq w v)

  pub refined_leads : (list : List ℕ) (s s' : State) (c : ℕ) → s v ≡ c → Rel c (s' v) → ((w : ℕ) → (w ≡ v → ⊥) → s' w ≡ s w) → ends_well u (run u s' list) ≡ true → Leads t s (refined bring t v c list) (Meets t.goal)
  refined_leads [] s s' c at rel same h =
      let list = connect bring c (t.goal v) in
      let goals = meets_in u.vars u.goal s' h in
      let path = connect_path c (t.goal v) (λ r e. above.goal_here c (s' v) rel (λ x k. goals v x (above.inside v (goal_below t law v r e)) k) r e) in
      leads_map t list s (OnlyMoved v s (over (t.goal v) c)) (Meets t.goal)
      (λ f moved. brought t.goal u.goal (goal_below t law) above.goal_other s s' f c same goals moved)
      (path_runs t law v list s c (over (t.goal v) c) path at)
  refined_leads (a ∷ rest) s s' c at rel same h =
      let o = t.pre a v in
      let list = connect bring c o in
      let next = over (t.eff a v) (over o c) in
      let first = begins u s' a rest h in
      let here : (r : ℕ) → o ≡ Some r → FreePath t v c (bring c r) r × Rel r (s' v) = λ r e. above.pre_here a c (s' v) first.live rel (λ x k. first.holds v x (above.inside v (pre_below t law a v r e)) k) r e in
      leads_append t list (a ∷ refined bring t v next rest) s (Meets t.goal)
      (leads_map t list s (OnlyMoved v s (over o c)) (λ f. Leads t f (a ∷ refined bring t v next rest) (Meets t.goal))
      (λ f moved. (
        record { live = above.live a first.live; holds = brought (t.pre a) (u.pre a) (pre_below t law a) (λ w apart. above.pre_other a w first.live apart) s s' f c same first.holds moved },
        refined_leads rest (after t f a) (after u s' a) next
            (ap (over (t.eff a v)) moved.0)
            (above.eff_here a (over o c) (s' v) first.live (over_both (λ k. Rel k (s' v)) o c (λ r e. (here r e).1) (λ e. rel)))
            (λ w apart. ap₂ over (above.eff_other a w first.live apart) (same w apart ∙ sym (moved.1 w apart)))
            first.goes_on,
      ))
      (path_runs t law v list s c (over o c) (connect_path c o (λ r e. (here r e).0)) at))
