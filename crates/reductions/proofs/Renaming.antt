-- A value of a variable renamed to another: the task stays lawful, and a plan goes over.
use Rattle.std.proofs.Common.{◌≡◌, ℕ, Bool, true, false, cond, not, ◌&&◌, eqb, [], ◌∷◌, Some, None, Option, sym, refl, ap, ◌∙◌}
use Rattle.std.proofs.lemmas.Bool.{both_ways, and_parts, and_from, and_left, and_right, cond-false, cond_both, eqb-true, ne_eqb, not_from_false}
use Rattle.tasks.specs.Task.{Task, Lawful}
use Rattle.tasks.specs.Plans.{State, over, Solvable}
use Rattle.tasks.specs.Runs.{Meets}
use Rattle.tasks.specs.Optional.{none_some, some_inj}
use Rattle.tasks.proofs.Lawful.{over_some, over_none}
use Rattle.reductions.specs.Applying.{rename_to, value_renamed}
use Rattle.reductions.proofs.Retiring.{simulated}

module _ (v x y : ℕ) where
  -- the new name of the value z of w, and of one that may be absent
  abbrev pub renamed : ℕ → ℕ → ℕ
  renamed w z = cond (eqb w v && eqb z x) y z

  abbrev pub renamed_option : ℕ → Option ℕ → Option ℕ
  renamed_option w o = cond (eqb w v) (rename_to x y o) o

  pub renamed_some : (w z : ℕ) → renamed_option w (Some z) ≡ Some (renamed w z)
  renamed_some w z = go (eqb w v) (eqb z x)
    where
      go : (b c : Bool) → ◌≡◌ {A = Option ℕ} (cond b (cond c (Some y) (Some z)) (Some z)) (Some (cond (b && c) y z))
      go true true = refl
      go true false = refl
      go false c = refl

  pub renamed_none : (w : ℕ) → renamed_option w None ≡ None
  renamed_none w = cond_both (eqb w v) None None (λ (o : Option ℕ). o ≡ None) (λ e. refl) (λ e. refl)

  named_before : (w : ℕ) (o : Option ℕ) (r : ℕ) → renamed_option w o ≡ Some r → (z : ℕ) × (o ≡ Some z) × (r ≡ renamed w z)
  named_before w None r e = none_some (renamed_option w None) r (renamed_none w) e
  named_before w (Some z) r e = (z, refl, some_inj r (renamed w z) (sym e ∙ renamed_some w z))

  renamed_over : (w : ℕ) (o : Option ℕ) (u : ℕ) → over (renamed_option w o) (renamed w u) ≡ renamed w (over o u)
  renamed_over w None u = over_none (renamed_option w None) (renamed w u) (renamed_none w)
  renamed_over w (Some z) u = over_some (renamed_option w (Some z)) (renamed w u) (renamed w z) (renamed_some w z)

module _ (t : Task) (v x y : ℕ) (law : Lawful t) where
  pub renaming_solvable : Solvable t → Solvable (value_renamed t v x y)
  renaming_solvable = simulated t (value_renamed t v x y) (λ s s'. (w : ℕ) → s' w ≡ renamed v x y w (s w)) (record {
    list_for = λ c. c ∷ [];
    starts = λ w. refl;
    follows = λ s s' c r runs. (
      record { live = runs.live; holds = asked (t.pre c) s s' r runs.holds },
      λ w. ap (over (renamed_option v x y w (t.eff c w))) (r w) ∙ renamed_over v x y w (t.eff c w) (s w),
    );
    ends = asked t.goal;
  }) law
    where
      asked : (o : ℕ → Option ℕ) (s s' : State) → ((w : ℕ) → s' w ≡ renamed v x y w (s w)) → Meets o s → Meets (λ w. renamed_option v x y w (o w)) s'
      asked o s s' r h w z e =
          let before = named_before v x y w (o w) z e in
          r w ∙ ap (renamed v x y w) (h w before.0 before.1) ∙ sym before.2

  module _ (apart : x ≡ y → ⊥) (here : t.val_live v y ≡ true) where
    -- the new name of a live value is live after
    live_after : (w z : ℕ) → t.val_live w z ≡ true → (value_renamed t v x y).val_live w (renamed v x y w z) ≡ true
    live_after w z live =
        cond_both (eqb w v && eqb z x) y z (λ k. (value_renamed t v x y).val_live w k ≡ true)
        (λ e.
        let same = eqb-true w v (and_parts (eqb w v) (eqb z x) e).0 in
        and_from (t.val_live w y) (not (eqb w v && eqb y x)) (ap (λ (u : ℕ). t.val_live u y) same ∙ here) (not_from_false (eqb w v && eqb y x) (and_right (eqb w v) (eqb y x) (ne_eqb y x (λ q. apart (sym q))))))
        (λ e. and_from (t.val_live w z) (not (eqb w v && eqb z x)) live (not_from_false (eqb w v && eqb z x) e))

    named_live : (w : ℕ) (o : Option ℕ) → ((z : ℕ) → o ≡ Some z → t.val_live w z ≡ true) → (z : ℕ) → renamed_option v x y w o ≡ Some z → (value_renamed t v x y).val_live w z ≡ true
    named_live w o h z e =
        let before = named_before v x y w o z e in
        ap ((value_renamed t v x y).val_live w) before.2 ∙ live_after w before.0 (h before.0 before.1)

    pub renaming_lawful : Lawful (value_renamed t v x y)
    renaming_lawful = record {
      few_vars = law.few_vars;
      few_acts = law.few_acts;
      size_some = law.size_some;
      size_most = law.size_most;
      size_none = law.size_none;
      var_in = law.var_in;
      act_in = law.act_in;
      val_in = λ w z e. law.val_in w z (and_parts (t.val_live w z) (not (eqb w v && eqb z x)) e).0;
      val_var = λ w z e. law.val_var w z (and_parts (t.val_live w z) (not (eqb w v && eqb z x)) e).0;
      pre_act = λ a w z e. let before = named_before v x y w (t.pre a w) z e in law.pre_act a w before.0 before.1;
      pre_val = λ a w z e. named_live w (t.pre a w) (law.pre_val a w) z e;
      eff_act = λ a w z e. let before = named_before v x y w (t.eff a w) z e in law.eff_act a w before.0 before.1;
      eff_val = λ a w z e. named_live w (t.eff a w) (law.eff_val a w) z e;
      goal_val = λ w z e. named_live w (t.goal w) (law.goal_val w) z e;
      init_val = λ w live. live_after w (t.init w) (law.init_val w live);
      init_none = λ w dead.
          let other = ne_eqb w v (λ q. both_ways (t.var_live w) dead (ap t.var_live q ∙ law.val_var v y here)) in
          cond-false (eqb w v && eqb (t.init w) x) y (t.init w) (and_left (eqb w v) (eqb (t.init w) x) other) ∙ law.init_none w dead;
    }
