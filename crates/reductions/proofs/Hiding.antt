-- A plan of a task without some actions and maybe one variable, read in the task itself.
use Rattle.std.proofs.Common.{◌≡◌, ℕ, Bool, true, ◌&&◌, List, [], ◌∷◌, ◌++◌, Some, None, Option, refl, subst, ap₂}
use Rattle.std.proofs.lemmas.Bool.{and_parts, and_from, cond-true}
use Rattle.tasks.specs.Task.{Task, Lawful}
use Rattle.tasks.specs.Plans.{over, is_plan}
use Rattle.tasks.proofs.Lawful.{over_both}
use Rattle.tasks.proofs.Running.{plan_from}
use Rattle.reductions.specs.Applying.{kept_if, without}
use Rattle.reductions.specs.Undoing.{Connector, connect, refined}
use Rattle.reductions.proofs.Weaving.{Brings, Abstracts, refined_leads}

-- what an action that stays says of a variable that stays
pub kept : (live act var : Bool) (o : Option ℕ) → (live && act) ≡ true → var ≡ true → kept_if (act && var) o ≡ o
kept live act var o h k = cond-true (act && var) o None (and_from act var (and_parts live act h).1 k)

-- v may be retired, and no other variable is
module _ (t : Task) (law : Lawful t) (v : ℕ) (act var : ℕ → Bool) (stays : (w : ℕ) → (w ≡ v → ⊥) → var w ≡ true) where
  hidden : (bring : Connector) → Brings t v bring → Abstracts t (without t act var) v bring (λ c d. t.var_live v ≡ true → t.val_live v c ≡ true)
  hidden bring paths = record {
    inside = λ w l. l;
    live = λ a h. (and_parts (t.act_live a) (act a) h).0;
    pre_other = λ a w h apart. kept (t.act_live a) (act a) (var w) (t.pre a w) h (stays w apart);
    eff_other = λ a w h apart. kept (t.act_live a) (act a) (var w) (t.eff a w) h (stays w apart);
    goal_other = λ w apart. cond-true (var w) (t.goal w) None (stays w apart);
    pre_here = λ a c d h rel holds r e. let live = law.pre_val a v r e in (paths c r (rel (law.val_var v r live)) live, λ is. live);
    eff_here = λ a c d h rel is. over_both (λ k. t.val_live v k ≡ true) (t.eff a v) c (λ x e. law.eff_val a v x e) (λ e. rel is);
    goal_here = λ c d rel holds r e. let live = law.goal_val v r e in paths c r (rel (law.val_var v r live)) live;
  }

  pub refined_plan : (bring : Connector) → Brings t v bring → (plan : List ℕ) → is_plan (without t act var) plan ≡ true → is_plan t (refined bring t v (t.init v) plan) ≡ true
  refined_plan bring paths plan h =
      let u = without t act var in
      plan_from t (refined bring t v (t.init v) plan) t.init
      (refined_leads t u law v bring (λ c d. t.var_live v ≡ true → t.val_live v c ≡ true) (hidden bring paths) plan t.init u.init (t.init v) refl (law.init_val v) (λ w apart. cond-true (var w) (t.init w) 0 (stays w apart)) h)

abbrev pub bring_nothing : Connector
bring_nothing c r = []

connect_nothing : (c : ℕ) (o : Option ℕ) → connect bring_nothing c o ≡ []
connect_nothing c None = refl
connect_nothing c (Some r) = refl

refined_by_nothing : (t : Task) (v : ℕ) (list : List ℕ) (c : ℕ) → refined bring_nothing t v c list ≡ list
refined_by_nothing t v [] c = connect_nothing c (t.goal v)
refined_by_nothing t v (a ∷ rest) c = ap₂ (λ k l. k ++ (a ∷ l)) (connect_nothing c (t.pre a v)) (refined_by_nothing t v rest (over (t.eff a v) (over (t.pre a v) c)))

-- where v has one live value at most, a plan stays a plan as it is
pub same_plan : (t : Task) → Lawful t → (v : ℕ) (act var : ℕ → Bool) → ((w : ℕ) → (w ≡ v → ⊥) → var w ≡ true) → Brings t v bring_nothing → (plan : List ℕ) → is_plan (without t act var) plan ≡ true → is_plan t plan ≡ true
same_plan t law v act var stays one plan h = subst (λ (k : List ℕ). is_plan t k ≡ true) (refined_by_nothing t v plan (t.init v)) (refined_plan t law v act var stays bring_nothing one plan h)
