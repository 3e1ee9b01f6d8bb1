-- Two values that two moves lead back and forth between, read as one.
use Rattle.std.proofs.Common.{◌≡◌, ℕ, ◌<◌, Bool, true, false, cond, not, ◌&&◌, ◌||◌, eqb, List, [], ◌∷◌, Some, None, Option, sym, refl, ap, ◌∙◌, subst, ap₂, arith}
use Rattle.std.proofs.lemmas.Bool.{and_parts, and_from, and_left, eqb-true, eq-eqb, ne_eqb, cond-true, cond-false, cond_both}
use Rattle.std.proofs.lemmas.Bool.Decides.{nat_tests}
use Rattle.tasks.specs.Bounds.{all_below}
use Rattle.tasks.specs.Task.{Task, Priced, Lawful}
use Rattle.tasks.specs.Plans.{agrees, over, is_plan}
use Rattle.tasks.proofs.Bounded.{below_at, below_from}
use Rattle.tasks.proofs.Running.{plan_from}
use Rattle.detours.specs.Free.{absent, unmentioned}
use Rattle.detours.proofs.FreePaths.{FreePath}
use Rattle.reductions.specs.Steps.{merge, has_value, is_move, fits}
use Rattle.reductions.specs.Acceptance.{names_live, accepted}
use Rattle.reductions.specs.Applying.{rename_to, without, value_renamed, every, retains, applied}
use Rattle.reductions.specs.Undoing.{merge_connector, refined}
use Rattle.reductions.proofs.Absent.{has_value_at}
use Rattle.reductions.proofs.Weaving.{Abstracts, refined_leads}
use Rattle.reductions.proofs.Hiding.{kept}

-- the name of each value once x reads y
abbrev renamed : ℕ → ℕ → ℕ → ℕ
renamed x y z = cond (eqb z x) y z

renamed_some : (x y z : ℕ) → rename_to x y (Some z) ≡ Some (renamed x y z)
renamed_some x y z = cond_both (eqb z x) y z (λ k. rename_to x y (Some z) ≡ Some k) (λ h. cond-true (eqb z x) (Some y) (Some z) h) (λ h. cond-false (eqb z x) (Some y) (Some z) h)

renamed_over : (x y c : ℕ) (o : Option ℕ) → over (rename_to x y o) (renamed x y c) ≡ renamed x y (over o c)
renamed_over x y c None = refl
renamed_over x y c (Some z) = ap (λ o. over o (renamed x y c)) (renamed_some x y z)

same_name : (x y c r : ℕ) → renamed x y c ≡ renamed x y r → (eqb c y && eqb r x) ≡ false → (eqb c x && eqb r y) ≡ false → c ≡ r
same_name x y c r e h k = grind (arith, nat_tests)

-- a move is a free action, and so a path
move_path : (t : Task) (a v x y : ℕ) → v < t.vars → t.act_live a ≡ true → is_move t a v x y ≡ true → FreePath t v x (a ∷ []) y
move_path t a v x y inside live h = (
  y,
  record {
    free =
        and_from (t.act_live a && not (absent (t.eff a v))) (all_below t.vars (λ w. eqb w v || unmentioned t a w))
        (and_from (t.act_live a) (not (absent (t.eff a v))) live (ap (λ o. not (absent o)) sets))
        (below_from t.vars (λ w. eqb w v || unmentioned t a w) (λ w l. either (eqb w v) (test_here w) (unmentioned t a w) (below_at t.vars test h w l)));
    fits = ap (λ o. agrees o x) (has_value_at x (t.pre a v) both.0) ∙ eq-eqb x x refl;
    sets = sets;
  },
  refl,
)
  where
    test_here : ℕ → Bool
    test_here w = has_value x (t.pre a w) && has_value y (t.eff a w)

    test : ℕ → Bool
    test w = cond (eqb w v) (test_here w) (unmentioned t a w)

    both : (has_value x (t.pre a v) ≡ true) × (has_value y (t.eff a v) ≡ true)
    both = and_parts (has_value x (t.pre a v)) (has_value y (t.eff a v)) (sym (cond-true (eqb v v) (test_here v) (unmentioned t a v) (eq-eqb v v refl)) ∙ below_at t.vars test h v inside)

    sets : t.eff a v ≡ Some y
    sets = has_value_at y (t.eff a v) both.1

    either : (b p q : Bool) → cond b p q ≡ true → (b || q) ≡ true
    either true p q e = refl
    either false p q e = e

module _ (t : Task) (v x y a b : ℕ) (forth : FreePath t v x (a ∷ []) y) (back : FreePath t v y (b ∷ []) x) where
  -- values of one name are joined by a path
  merge_path : (c r : ℕ) → renamed x y c ≡ renamed x y r → FreePath t v c (merge_connector x y a b c r) r
  merge_path c r e =
      cond_both (eqb c y && eqb r x) (b ∷ []) (cond (eqb c x && eqb r y) (a ∷ []) []) (λ l. FreePath t v c l r)
      (λ h. between y x (b ∷ []) (and_parts (eqb c y) (eqb r x) h) back)
      (λ h. cond_both (eqb c x && eqb r y) (a ∷ []) [] (λ l. FreePath t v c l r)
      (λ k. between x y (a ∷ []) (and_parts (eqb c x) (eqb r y) k) forth)
      (λ k. same_name x y c r e h k))
    where
      between : (i j : ℕ) (list : List ℕ) → (eqb c i ≡ true) × (eqb r j ≡ true) → FreePath t v i list j → FreePath t v c list r
      between i j list both path = subst (λ k. FreePath t v c list k) (sym (eqb-true r j both.1)) (subst (λ k. FreePath t v k list j) (sym (eqb-true c i both.0)) path)

  -- what the renamed task says of v
  at_v : (o : Option ℕ) → cond (eqb v v) (rename_to x y o) o ≡ rename_to x y o
  at_v o = cond-true (eqb v v) (rename_to x y o) o (eq-eqb v v refl)

  at_v_some : (o : Option ℕ) (r : ℕ) → o ≡ Some r → cond (eqb v v) (rename_to x y o) o ≡ Some (renamed x y r)
  at_v_some o r e = at_v o ∙ ap (rename_to x y) e ∙ renamed_some x y r

  merged : (act : ℕ → Bool) → Abstracts t (without (value_renamed t v x y) act every) v (merge_connector x y a b) (λ c d. d ≡ renamed x y c)
  merged act = record {
    inside = λ w l. l;
    live = λ c h. (and_parts (t.act_live c) (act c) h).0;
    pre_other = λ c w h apart. kept (t.act_live c) (act c) true ((value_renamed t v x y).pre c w) h refl ∙ cond-false (eqb w v) (rename_to x y (t.pre c w)) (t.pre c w) (ne_eqb w v apart);
    eff_other = λ c w h apart. kept (t.act_live c) (act c) true ((value_renamed t v x y).eff c w) h refl ∙ cond-false (eqb w v) (rename_to x y (t.eff c w)) (t.eff c w) (ne_eqb w v apart);
    goal_other = λ w apart. cond-false (eqb w v) (rename_to x y (t.goal w)) (t.goal w) (ne_eqb w v apart);
    pre_here = λ e c d h rel holds r f.
        let same = holds (renamed x y r) (kept (t.act_live e) (act e) true ((value_renamed t v x y).pre e v) h refl ∙ at_v_some (t.pre e v) r f) in
        (merge_path c r (sym rel ∙ same), same);
    eff_here = λ e c d h rel. ap₂ over (kept (t.act_live e) (act e) true ((value_renamed t v x y).eff e v) h refl ∙ at_v (t.eff e v)) rel ∙ renamed_over x y c (t.eff e v);
    goal_here = λ c d rel holds r f. merge_path c r (sym rel ∙ holds (renamed x y r) (at_v_some (t.goal v) r f));
  }

pub merge_plan : (p : Priced) (v x y a b : ℕ) → Lawful p.task → accepted p (merge v x y a b) ≡ true → (plan : List ℕ) → is_plan (applied p (merge v x y a b)).task plan ≡ true → is_plan p.task (refined (merge_connector x y a b) p.task v (p.task.init v) plan) ≡ true
merge_plan p v x y a b law ok plan h =
    let t = p.task in
    let act = retains t (merge v x y a b) in
    let u = without (value_renamed t v x y) act every in
    let all = and_parts (names_live t (merge v x y a b)) (fits p (merge v x y a b)) ok in
    let live-b = and_parts (t.var_live v && t.val_live v x && t.val_live v y && t.act_live a) (t.act_live b) all.0 in
    let live-a = and_parts (t.var_live v && t.val_live v x && t.val_live v y) (t.act_live a) live-b.0 in
    let live-y = and_parts (t.var_live v && t.val_live v x) (t.val_live v y) live-a.0 in
    let live-x = and_parts (t.var_live v) (t.val_live v x) live-y.0 in
    let back = and_parts (not (eqb x y) && is_move t a v x y) (is_move t b v y x) all.1 in
    let forth = and_parts (not (eqb x y)) (is_move t a v x y) back.0 in
    let inside = law.var_in v live-x.0 in
    let bring = merge_connector x y a b in
    plan_from t (refined bring t v (t.init v) plan) t.init
    (refined_leads t u law v bring (λ c d. d ≡ renamed x y c) (merged t v x y a b (move_path t a v x y inside live-a.1 forth.1) (move_path t b v y x inside live-b.1 back.1) act) plan t.init u.init (t.init v) refl
    (ap (λ (q : Bool). cond (q && eqb (t.init v) x) y (t.init v)) (eq-eqb v v refl))
    (λ w apart. cond-false (eqb w v && eqb (t.init w) x) y (t.init w) (and_left (eqb w v) (eqb (t.init w) x) (ne_eqb w v apart)))
    h)
