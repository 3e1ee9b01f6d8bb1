-- Two actions that differ in what they require of one variable made one: the task stays lawful, and a plan goes over.
use Rattle.std.proofs.Common.{◌≡◌, ℕ, Bool, true, not, ◌&&◌, ◌||◌, eqb, [], ◌∷◌, Some, None, Option, sym, refl, ap, ◌∙◌, subst, ⊎_elim}
use Rattle.std.proofs.lemmas.Bool.{false≢true, and_parts, and_from, and_right, or_cases, not-true, not-false, not_from_false, cases_eq, cases_lt, cond-true, eqb-true, eqb-false, eq-eqb, ne_eqb}
use Rattle.tasks.specs.Task.{Task, Priced, Lawful}
use Rattle.tasks.specs.Plans.{over, Solvable}
use Rattle.tasks.specs.Optional.{some_inj, guard_some}
use Rattle.tasks.proofs.Bounded.{below_at}
use Rattle.tasks.proofs.Lawful.{pre_past, eff_past}
use Rattle.detours.specs.Free.{absent}
use Rattle.reductions.specs.Steps.{generalise, live_values, both_differ, agree_except, same_value, fits}
use Rattle.reductions.specs.Acceptance.{names_live, accepted}
use Rattle.reductions.specs.Applying.{precondition_dropped, without, every, retains, task_after}
use Rattle.reductions.proofs.Absent.{absent_none, same_value_at}
use Rattle.reductions.proofs.Retiring.{simulated, retained_eff, retiring_lawful, retiring_solvable}

-- a and b name the same values of every variable but v
agree_at : (t : Task) → Lawful t → (v a b : ℕ) → agree_except t v a b ≡ true → (w : ℕ) → (w ≡ v → ⊥) → (t.pre a w ≡ t.pre b w) × (t.eff a w ≡ t.eff b w)
agree_at t law v a b h w apart =
    ⊎_elim
    (λ l. ⊎_elim (λ e. absurd (apart (eqb-true w v e))) same (or_cases (eqb w v) (alike w) (below_at t.vars (λ k. eqb k v || alike k) h w l)))
    (λ l. (pre_past t law a w l ∙ sym (pre_past t law b w l), eff_past t law a w l ∙ sym (eff_past t law b w l)))
    (cases_lt w t.vars)
  where
    alike : ℕ → Bool
    alike k = same_value (t.pre a k) (t.pre b k) && same_value (t.eff a k) (t.eff b k)

    same : alike w ≡ true → (t.pre a w ≡ t.pre b w) × (t.eff a w ≡ t.eff b w)
    same e =
        let both = and_parts (same_value (t.pre a w) (t.pre b w)) (same_value (t.eff a w) (t.eff b w)) e in
        (same_value_at (t.pre a w) (t.pre b w) both.0, same_value_at (t.eff a w) (t.eff b w) both.1)

-- two values are there, and differ
abbrev pub Differing : Option ℕ → Option ℕ → Type 0
Differing o q = (x : ℕ) × (y : ℕ) × (o ≡ Some x) × (q ≡ Some y) × (x ≡ y → ⊥)

differing_at : (o q : Option ℕ) → both_differ o q ≡ true → Differing o q
differing_at (Some x) (Some y) e = (x, y, refl, refl, eqb-false x y (not-true (eqb x y) e))
differing_at (Some x) None e = absurd (false≢true e)
differing_at None (Some y) e = absurd (false≢true e)
differing_at None None e = absurd (false≢true e)

-- what an accepted generalise says
pub record Generalises (p : Priced) (v a b : ℕ) : Type 0 where
  pub v_live : p.task.var_live v ≡ true
  pub a_live : p.task.act_live a ≡ true
  pub b_live : p.task.act_live b ≡ true
  pub two : live_values p.task v (p.task.size v) ≡ 2
  pub differ : Differing (p.task.pre a v) (p.task.pre b v)
  pub leaves : p.task.eff a v ≡ None
  pub same_price : p.price a ≡ p.price b
  pub same_pre : (w : ℕ) → (w ≡ v → ⊥) → p.task.pre a w ≡ p.task.pre b w
  pub same_eff : (w : ℕ) → p.task.eff a w ≡ p.task.eff b w

pub generalise_at : (p : Priced) (v a b : ℕ) → Lawful p.task → accepted p (generalise v a b) ≡ true → Generalises p v a b
generalise_at p v a b law h =
    let t = p.task in
    let two = eqb (live_values t v (t.size v)) 2 in
    let differ = both_differ (t.pre a v) (t.pre b v) in
    let no-a = absent (t.eff a v) in
    let no-b = absent (t.eff b v) in
    let same = eqb (p.price a) (p.price b) in
    let both = and_parts (names_live t (generalise v a b)) (fits p (generalise v a b)) h in
    let n2 = and_parts (t.var_live v && t.act_live a) (t.act_live b) both.0 in
    let n1 = and_parts (t.var_live v) (t.act_live a) n2.0 in
    let f5 = and_parts (two && differ && no-a && no-b && same) (agree_except t v a b) both.1 in
    let f4 = and_parts (two && differ && no-a && no-b) same f5.0 in
    let f3 = and_parts (two && differ && no-a) no-b f4.0 in
    let f2 = and_parts (two && differ) no-a f3.0 in
    let f1 = and_parts two differ f2.0 in
    let leaves = absent_none (t.eff a v) f2.1 in
    record {
      v_live = n1.0;
      a_live = n1.1;
      b_live = n2.1;
      two = eqb-true (live_values t v (t.size v)) 2 f1.0;
      differ = differing_at (t.pre a v) (t.pre b v) f1.1;
      leaves = leaves;
      same_price = eqb-true (p.price a) (p.price b) f4.1;
      same_pre = λ w apart. (agree_at t law v a b f5.1 w apart).0;
      same_eff = λ w. ⊎_elim
          (λ same. subst (λ (u : ℕ). t.eff a u ≡ t.eff b u) (sym same) (leaves ∙ sym (absent_none (t.eff b v) f3.1)))
          (λ apart. (agree_at t law v a b f5.1 w apart).1)
          (cases_eq w v);
    }

-- a precondition dropped
dropping_lawful : (t : Task) (v a : ℕ) → Lawful t → Lawful (precondition_dropped t v a)
dropping_lawful t v a law = record {
  few_vars = law.few_vars;
  few_acts = law.few_acts;
  size_some = law.size_some;
  size_most = law.size_most;
  size_none = law.size_none;
  var_in = law.var_in;
  act_in = law.act_in;
  val_in = law.val_in;
  val_var = law.val_var;
  pre_act = λ c w x e. law.pre_act c w x (guard_some (not (eqb c a && eqb w v)) (t.pre c w) x e).1;
  pre_val = λ c w x e. law.pre_val c w x (guard_some (not (eqb c a && eqb w v)) (t.pre c w) x e).1;
  eff_act = law.eff_act;
  eff_val = law.eff_val;
  goal_val = law.goal_val;
  init_val = law.init_val;
  init_none = law.init_none;
}

dropping_solvable : (t : Task) (v a : ℕ) → Lawful t → Solvable t → Solvable (precondition_dropped t v a)
dropping_solvable t v a = simulated t (precondition_dropped t v a) (λ s s'. (w : ℕ) → s' w ≡ s w) (record {
  list_for = λ c. c ∷ [];
  starts = λ w. refl;
  follows = λ s s' c r runs. (
    record { live = runs.live; holds = λ w x e. r w ∙ runs.holds w x (guard_some (not (eqb c a && eqb w v)) (t.pre c w) x e).1 },
    λ w. ap (over (t.eff c w)) (r w),
  );
  ends = λ s s' r met w x e. r w ∙ met w x e;
})

pub generalise_lawful : (t : Task) (v a b : ℕ) → Lawful t → Lawful (task_after t (generalise v a b))
generalise_lawful t v a b law = retiring_lawful (precondition_dropped t v a) (retains t (generalise v a b)) every (dropping_lawful t v a law)

-- a stands in for b
pub generalise_solvable : (p : Priced) (v a b : ℕ) → Lawful p.task → Generalises p v a b → Solvable p.task → Solvable (task_after p.task (generalise v a b))
generalise_solvable p v a b law g h =
    retiring_solvable (precondition_dropped t v a) stays every (λ c. a ∷ [])
    (λ s s' c retired agree runs.
    let same = eqb-true c b (not-false (eqb c b) retired) in (
      record {
        live = and_from (t.act_live a) (stays a) g.a_live a_stays;
        holds = λ w z e. agree w refl ∙ runs.holds w z (required c same w z e);
      },
      λ w here. ap (λ (o : Option ℕ). over o (s' w)) (set c same w) ∙ ap (over (t.eff c w)) (agree w refl),
    ))
    (dropping_lawful t v a law)
    (dropping_solvable t v a law h)
  where
    t : Task
    t = p.task

    stays : ℕ → Bool
    stays = retains t (generalise v a b)

    a_stays : stays a ≡ true
    a_stays = not_from_false (eqb a b) (ne_eqb a b (λ same. let d = g.differ in d.4 (some_inj d.0 d.1 (sym d.2 ∙ ap (λ (c : ℕ). t.pre c v) same ∙ d.3))))

    required : (c : ℕ) → c ≡ b → (w z : ℕ) → (without (precondition_dropped t v a) stays every).pre a w ≡ Some z → (precondition_dropped t v a).pre c w ≡ Some z
    required c same w z e =
        let k = guard_some (not (eqb a a && eqb w v)) (t.pre a w) z (guard_some (stays a && every w) ((precondition_dropped t v a).pre a w) z e).1 in
        let other = not-true (eqb w v) (sym (ap (λ (q : Bool). not (q && eqb w v)) (eq-eqb a a refl)) ∙ k.0) in
        cond-true (not (eqb c a && eqb w v)) (t.pre c w) None (not_from_false (eqb c a && eqb w v) (and_right (eqb c a) (eqb w v) other))
        ∙ ap (λ (d : ℕ). t.pre d w) same
        ∙ sym (g.same_pre w (eqb-false w v other))
        ∙ k.1

    set : (c : ℕ) → c ≡ b → (w : ℕ) → (without (precondition_dropped t v a) stays every).eff a w ≡ t.eff c w
    set c same w = retained_eff (precondition_dropped t v a) stays every a w a_stays refl ∙ g.same_eff w ∙ ap (λ (d : ℕ). t.eff d w) (sym same)
