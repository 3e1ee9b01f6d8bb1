-- Two values of a variable made one: the task stays lawful, and a plan goes over.
use Rattle.std.proofs.Common.{◌≡◌, ℕ, Bool, true, cond, not, ◌&&◌, ◌||◌, eqb, [], Some, None, sym, refl, ap, ◌∙◌, subst, ⊎_elim}
use Rattle.std.proofs.lemmas.Bool.{and_parts, and_from, or_cases, not-true, not-false, cases_eq, cases_lt, cond-true, cond-false, cond_both, eqb-true, eqb-false, eq-eqb, ne_eqb}
use Rattle.tasks.specs.Task.{Task, Priced, Lawful}
use Rattle.tasks.specs.Plans.{State, after, Solvable}
use Rattle.tasks.specs.Runs.{Meets}
use Rattle.tasks.proofs.Bounded.{below_at}
use Rattle.tasks.proofs.Lawful.{over_some, over_none, pre_past, eff_past}
use Rattle.detours.specs.Free.{unmentioned}
use Rattle.reductions.specs.Steps.{merge, is_move, has_value, fits}
use Rattle.reductions.specs.Acceptance.{names_live, accepted}
use Rattle.reductions.specs.Applying.{value_renamed, every, retains, task_after}
use Rattle.reductions.proofs.Absent.{unmentioned_at, has_value_at}
use Rattle.reductions.proofs.Retiring.{retiring_lawful, retiring_solvable}
use Rattle.reductions.proofs.Renaming.{renamed, renamed_option, renamed_some, renamed_none, renaming_lawful, renaming_solvable}

-- a leads v from x to y and names no other variable
pub record Move (t : Task) (a v x y : ℕ) : Type 0 where
  pub requires : t.pre a v ≡ Some x
  pub sets : t.eff a v ≡ Some y
  pub alone : (w : ℕ) → (w ≡ v → ⊥) → (t.pre a w ≡ None) × (t.eff a w ≡ None)

pub move_at : (t : Task) → Lawful t → (a v x y : ℕ) → t.var_live v ≡ true → is_move t a v x y ≡ true → Move t a v x y
move_at t law a v x y live h =
    record { requires = has_value_at x (t.pre a v) here.0; sets = has_value_at y (t.eff a v) here.1; alone = alone }
  where
    moves : ℕ → Bool
    moves w = has_value x (t.pre a w) && has_value y (t.eff a w)

    test : ℕ → Bool
    test w = cond (eqb w v) (moves w) (unmentioned t a w)

    here : (has_value x (t.pre a v) ≡ true) × (has_value y (t.eff a v) ≡ true)
    here = and_parts (has_value x (t.pre a v)) (has_value y (t.eff a v)) (sym (cond-true (eqb v v) (moves v) (unmentioned t a v) (eq-eqb v v refl)) ∙ below_at t.vars test h v (law.var_in v live))

    alone : (w : ℕ) → (w ≡ v → ⊥) → (t.pre a w ≡ None) × (t.eff a w ≡ None)
    alone w apart =
        ⊎_elim
        (λ l. unmentioned_at t a w (sym (cond-false (eqb w v) (moves w) (unmentioned t a w) (ne_eqb w v apart)) ∙ below_at t.vars test h w l))
        (λ l. (pre_past t law a w l, eff_past t law a w l))
        (cases_lt w t.vars)

-- what an accepted merge says
pub record Merges (t : Task) (v x y a b : ℕ) : Type 0 where
  pub v_live : t.var_live v ≡ true
  pub x_live : t.val_live v x ≡ true
  pub y_live : t.val_live v y ≡ true
  pub a_live : t.act_live a ≡ true
  pub b_live : t.act_live b ≡ true
  pub apart : x ≡ y → ⊥
  pub forth : Move t a v x y
  pub back : Move t b v y x

pub merge_at : (p : Priced) (v x y a b : ℕ) → Lawful p.task → accepted p (merge v x y a b) ≡ true → Merges p.task v x y a b
merge_at p v x y a b law h =
    let t = p.task in
    let both = and_parts (names_live t (merge v x y a b)) (fits p (merge v x y a b)) h in
    let n4 = and_parts (t.var_live v && t.val_live v x && t.val_live v y && t.act_live a) (t.act_live b) both.0 in
    let n3 = and_parts (t.var_live v && t.val_live v x && t.val_live v y) (t.act_live a) n4.0 in
    let n2 = and_parts (t.var_live v && t.val_live v x) (t.val_live v y) n3.0 in
    let n1 = and_parts (t.var_live v) (t.val_live v x) n2.0 in
    let f2 = and_parts (not (eqb x y) && is_move t a v x y) (is_move t b v y x) both.1 in
    let f1 = and_parts (not (eqb x y)) (is_move t a v x y) f2.0 in
    record {
      v_live = n1.0;
      x_live = n1.1;
      y_live = n2.1;
      a_live = n3.1;
      b_live = n4.1;
      apart = eqb-false x y (not-true (eqb x y) f1.0);
      forth = move_at t law a v x y n1.0 f1.1;
      back = move_at t law b v y x n1.0 f2.1;
    }

-- an action that leads v between two values does nothing once both are called y
idle : (t : Task) (v x y c from to : ℕ) → Move t c v from to → renamed v x y v from ≡ y → renamed v x y v to ≡ y → (s : State) → Meets ((value_renamed t v x y).pre c) s → (w : ℕ) → s w ≡ after (value_renamed t v x y) s c w
idle t v x y c from to m f g s h w =
    ⊎_elim
    (λ same. subst (λ (u : ℕ). s u ≡ after (value_renamed t v x y) s c u) (sym same)
    (h v y (ap (renamed_option v x y v) m.requires ∙ renamed_some v x y v from ∙ ap Some f) ∙ sym (over_some (renamed_option v x y v (t.eff c v)) (s v) y (ap (renamed_option v x y v) m.sets ∙ renamed_some v x y v to ∙ ap Some g))))
    (λ apart. sym (over_none (renamed_option v x y w (t.eff c w)) (s w) (ap (renamed_option v x y w) (m.alone w apart).1 ∙ renamed_none v x y w)))
    (cases_eq w v)

module _ (t : Task) (v x y a b : ℕ) (law : Lawful t) (m : Merges t v x y a b) where
  pub merge_lawful : Lawful (task_after t (merge v x y a b))
  merge_lawful = retiring_lawful (value_renamed t v x y) (retains t (merge v x y a b)) every (renaming_lawful t v x y law m.apart m.y_live)

  pub merge_solvable : Solvable t → Solvable (task_after t (merge v x y a b))
  merge_solvable h =
      retiring_solvable (value_renamed t v x y) (retains t (merge v x y a b)) every (λ c. [])
      (λ s s' c retired agree runs w here. agree w here ∙ still s c (not-false (eqb c a || eqb c b) retired) runs.holds w)
      (renaming_lawful t v x y law m.apart m.y_live)
      (renaming_solvable t v x y law h)
    where
      of_x : renamed v x y v x ≡ y
      of_x = cond-true (eqb v v && eqb x x) y x (and_from (eqb v v) (eqb x x) (eq-eqb v v refl) (eq-eqb x x refl))

      of_y : renamed v x y v y ≡ y
      of_y = cond_both (eqb v v && eqb y x) y y (λ k. k ≡ y) (λ e. refl) (λ e. refl)

      still : (s : State) (c : ℕ) → (eqb c a || eqb c b) ≡ true → Meets ((value_renamed t v x y).pre c) s → (w : ℕ) → s w ≡ after (value_renamed t v x y) s c w
      still s c which holds =
          ⊎_elim
          (λ e. idle t v x y c x y (subst (λ (k : ℕ). Move t k v x y) (sym (eqb-true c a e)) m.forth) of_x of_y s holds)
          (λ e. idle t v x y c y x (subst (λ (k : ℕ). Move t k v y x) (sym (eqb-true c b e)) m.back) of_y of_x s holds)
          (or_cases (eqb c a) (eqb c b) which)
