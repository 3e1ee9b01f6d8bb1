-- The task of a survey that is accepted is lawful, and it is what the law of a floor says.
use Rattle.std.specs.Prelude.{◌≡◌, ℕ, zero, suc, ◌+◌, ◌-◌, ◌*◌, ◌<◌, ◌≤◌, true, false, cond, ◌⊎◌, length, is_some, Some, None, Option, ◌==◌, nat_eq, nat_le, nat_lt, slice_index, slice_index_or, refl}
use Rattle.std.proofs.Common.{sym, ap, subst, ◌∙◌, inl, inr, ⊎_elim, arith}
use Rattle.std.proofs.lemmas.Bool.{both_ways, and_parts, and_from, cond-true, cond-false, cond_both, cases_Bool, cases_eq, eqb-true, eq-eqb, ne_eqb, leb-true, leb-false, le-leb, lt-leb, ltb-true, lt-ltb}
use Rattle.tasks.specs.Task.{Lawful, priced}
use Rattle.tasks.specs.Bounds.{all_below}
use Rattle.tasks.specs.Plans.{State, agrees}
use Rattle.tasks.proofs.Bounded.{below_at, below_from}
use Rattle.floors.specs.declared.floor.Deed.{Deed}
use Rattle.floors.specs.declared.floor.Deed.TheVariants.{Move, Sample}
use Rattle.floors.specs.Floors.{Pool, cell_count, open_cell, heading, neighbour_of, deed_of, asked_by, set_by, cost_of, surveyed, tariff_of}
use Rattle.floors.specs.FloorLaw.{Moves, Samples, FloorLaw}
use Rattle.floors.specs.Cells.{open_within}
use Rattle.floors.specs.Accepting.{Accepted}
use Rattle.tasks.specs.Optional.{chosen}
use Rattle.floors.specs.Sharing.{sharing, shared}
use Rattle.floors.specs.Doing.{Does, Crossing, deed_does, crossing_deed, sampling_deed, is_move}

-- what is required or set is so of a live action alone
asked_acts : (o : Option Deed) (v x : ℕ) → asked_by o v ≡ Some x → is_some o ≡ true
asked_acts None v x h = let z : ◌≡◌ {A = ℕ} 0 1 = cc in absurd (omega arith)
asked_acts (Some e) v x h = refl

set_acts : (o : Option Deed) (v x : ℕ) → set_by o v ≡ Some x → is_some o ≡ true
set_acts None v x h = let z : ◌≡◌ {A = ℕ} 0 1 = cc in absurd (omega arith)
set_acts (Some e) v x h = refl

module _ (p : Pool) (ok : Accepted p) where
  robot_value : (v x : ℕ) → (v == 0) ≡ true → open_cell p x ≡ true → (surveyed p).val_live v x ≡ true
  robot_value v x e h = cond-true (v == 0) (open_cell p x) _ e ∙ h

  point_value : (v x : ℕ) → 1 ≤ v → v ≤ length p.points → x < 2 → (surveyed p).val_live v x ≡ true
  point_value v x some within low =
      cond-false (v == 0) (open_cell p x) _ (ne_eqb v 0 (λ e. omega arith)) ∙ and_from _ _ (le-leb v (length p.points) within) (lt-ltb x 2 low)

  asked_live : (a : ℕ) (o : Option Deed) → Does p a o → (v x : ℕ) → asked_by o v ≡ Some x → (surveyed p).val_live v x ≡ true
  asked_live a None w v x h = let z : ◌≡◌ {A = ℕ} 0 1 = cc in absurd (omega arith)
  asked_live a (Some (Move c d)) w v x h = let t = chosen (v == 0) c x h in robot_value v x t.0 (subst (λ y. open_cell p y ≡ true) t.1 w.from_open)
  asked_live a (Some (Sample k c)) w v x h =
      let t = chosen (v == 0) c x h in
      robot_value v x t.0 (subst (λ y. open_cell p y ≡ true) (w.cell ∙ t.1) (ok.point_open (k - 1) (omega (arith, w.some, w.within))))

  set_live : (a : ℕ) (o : Option Deed) → Does p a o → (v x : ℕ) → set_by o v ≡ Some x → (surveyed p).val_live v x ≡ true
  set_live a None w v x h = let z : ◌≡◌ {A = ℕ} 0 1 = cc in absurd (omega arith)
  set_live a (Some (Move c d)) w v x h = let t = chosen (v == 0) d x h in robot_value v x t.0 (subst (λ y. open_cell p y ≡ true) t.1 w.to_open)
  set_live a (Some (Sample k c)) w v x h =
      let t = chosen (v == k) 1 x h in
      let e = eqb-true v k t.0 in
      point_value v x (omega (arith, w.some)) (omega (arith, w.within)) (omega (arith, t.1))

  acts_within : (a : ℕ) (o : Option Deed) → Does p a o → is_some o ≡ true → a < 4 * cell_count p + length p.points
  acts_within a None w h = absurd (both_ways false refl h)
  acts_within a (Some (Move c d)) w h = omega (arith, w.low)
  acts_within a (Some (Sample k c)) w h = omega (arith, w.number, w.within)

  -- the values of a variable, and its goal, by the variable's kind
  values_by_kind : (v x : ℕ) → (surveyed p).val_live v x ≡ true → ((v ≡ 0) × (open_cell p x ≡ true)) ⊎ ((1 ≤ v) × (v ≤ length p.points) × (x < 2))
  values_by_kind v x h =
      ⊎_elim
      (λ e. inl (eqb-true v 0 e, sym (cond-true (v == 0) (open_cell p x) _ e) ∙ h))
      (λ e.
      let t = and_parts (nat_le v (length p.points)) (nat_lt x 2) (sym (cond-false (v == 0) (open_cell p x) _ e) ∙ h) in
      inr (some e, leb-true _ _ t.0, ltb-true _ _ t.1))
      (cases_Bool (v == 0))
    where
      some : nat_eq v 0 ≡ false → 1 ≤ v
      some e = ⊎_elim (λ z. absurd (both_ways (v == 0) e (eq-eqb v 0 z))) (λ n. omega arith) (cases_eq v 0)

  size_of_point : (v : ℕ) → 1 ≤ v → v ≤ length p.points → (surveyed p).size v ≡ 2
  size_of_point v some within = cond-false (v == 0) (cell_count p) _ (ne_eqb v 0 (λ e. omega arith)) ∙ cond-true (nat_le v (length p.points)) 2 0 (le-leb _ _ within)

  goals_by_kind : (v x : ℕ) → (surveyed p).goal v ≡ Some x → (1 ≤ v) × (v ≤ length p.points) × (1 ≡ x)
  goals_by_kind v x h =
      ⊎_elim
      (λ z. let n : ◌≡◌ {A = Option ℕ} None (Some x) = sym (cond-true (v == 0) None _ (eq-eqb v 0 z)) ∙ h in let o : ◌≡◌ {A = ℕ} 0 1 = cc in absurd (omega arith))
      (λ n. let t = chosen (nat_le v (length p.points)) 1 x (sym (cond-false (v == 0) None _ (ne_eqb v 0 n)) ∙ h) in (omega arith, leb-true _ _ t.0, t.1))
      (cases_eq v 0)

  -- the initial value of a point is 0
  init_of_point : (v : ℕ) → 1 ≤ v → (surveyed p).init v ≡ 0
  init_of_point v some = cond-false (v == 0) p.start 0 (ne_eqb v 0 (λ e. omega arith))

  init_live : (v : ℕ) → v ≤ length p.points → (surveyed p).val_live v ((surveyed p).init v) ≡ true
  init_live zero within = ok.start_open
  init_live (suc v) within = point_value (suc v) _ (omega arith) within (omega (arith, init_of_point (suc v) (omega arith)))

  pub lawful_task : Lawful (surveyed p)
  lawful_task = record {
    few_vars = omega (arith, ok.few);
    few_acts = omega (arith, ok.few, ok.sides.few_cells);
    size_some = λ v lt. cond_both (v == 0) (cell_count p) _ (λ n. 1 ≤ n) (λ e. ok.sides.some_cells) (λ e. cond_both (nat_le v (length p.points)) 2 0 (λ n. 1 ≤ n) (λ f. omega arith) (λ f. absurd (omega (arith, leb-false _ _ f))));
    size_most = λ v. cond_both (v == 0) (cell_count p) _ (λ n. n ≤ 64) (λ e. ok.sides.few_cells) (λ e. cond_both (nat_le v (length p.points)) 2 0 (λ n. n ≤ 64) (λ f. omega arith) (λ f. omega arith));
    size_none = λ v past. cond-false (v == 0) (cell_count p) _ (ne_eqb v 0 (λ e. omega arith)) ∙ cond-false (nat_le v (length p.points)) 2 0 (lt-leb _ _ (omega arith));
    var_in = λ v h. omega (arith, leb-true v (length p.points) h);
    act_in = λ a h. acts_within a (deed_of p a) (deed_does p a) h;
    val_in = λ v x h. ⊎_elim (λ k. subst (λ u. x < (surveyed p).size u) (sym k.0) (open_within p x k.1)) (λ k. omega (arith, size_of_point v k.0 k.1, k.2)) (values_by_kind v x h);
    val_var = λ v x h. ⊎_elim (λ k. le-leb v _ (omega (arith, k.0))) (λ k. le-leb v _ k.1) (values_by_kind v x h);
    pre_act = λ a v x h. asked_acts (deed_of p a) v x h;
    pre_val = λ a v x h. asked_live a (deed_of p a) (deed_does p a) v x h;
    eff_act = λ a v x h. set_acts (deed_of p a) v x h;
    eff_val = λ a v x h. set_live a (deed_of p a) (deed_does p a) v x h;
    goal_val = λ v x h. let t = goals_by_kind v x h in point_value v x t.0 t.1 (omega (arith, t.2));
    init_val = λ v h. init_live v (leb-true v _ h);
    init_none = λ v h. init_of_point v (omega (arith, leb-false v _ h));
  }

  moving : (a c d : ℕ) → deed_of p a ≡ Some (Move c d) → Moves (surveyed p) a c d
  moving a c d e = record {
    live = ap is_some e;
    from = record { here = ap (λ o. asked_by o 0) e; elsewhere = λ w n. ap (λ o. asked_by o w) e ∙ cond-false (w == 0) (Some c) None (ne_eqb w 0 n) };
    to = record { here = ap (λ o. set_by o 0) e; elsewhere = λ w n. ap (λ o. set_by o w) e ∙ cond-false (w == 0) (Some d) None (ne_eqb w 0 n) };
  }

  move_deed : (a c d : ℕ) → Moves (surveyed p) a c d → deed_of p a ≡ Some (Move c d)
  move_deed a c d m = is_move p a c d (deed_of p a) (deed_does p a) m.from.here m.to.here

  crossing : (a c d : ℕ) → Moves (surveyed p) a c d → Crossing p a c d
  crossing a c d m = subst (Does p a) (move_deed a c d m) (deed_does p a)

  joining : (c d : ℕ) → open_cell p c ≡ true → open_cell p d ≡ true → (k : ℕ) × (k < 4) × (neighbour_of p c (heading k) ≡ Some d) → (a : ℕ) × Moves (surveyed p) a c d
  joining c d from to t = (c * 4 + t.0, moving _ c d (crossing_deed p c d t.0 t.1 (open_within p c from) t.2 from to))

  -- a live action moves or samples
  sorted : (a : ℕ) (o : Option Deed) → deed_of p a ≡ o → Does p a o → is_some o ≡ true → ((c : ℕ) × (d : ℕ) × Moves (surveyed p) a c d) ⊎ ((k : ℕ) × (k < length p.points) × (a ≡ 4 * cell_count p + k))
  sorted a None e w h = absurd (both_ways false refl h)
  sorted a (Some (Move c d)) e w h = inl (c, d, moving a c d e)
  sorted a (Some (Sample k c)) e w h = inr (k - 1, omega (arith, w.some, w.within), omega (arith, w.some, w.number))

  agreeing : (s : State) (c v : ℕ) → s 0 ≡ c → agrees (cond (v == 0) (Some c) None) (s v) ≡ true
  agreeing s c v h = cond_both (v == 0) (Some c) None (λ o. agrees o (s v) ≡ true) (λ e. eq-eqb (s v) c (ap s (eqb-true v 0 e) ∙ h)) (λ e. refl)

  sampling : (k : ℕ) → k < length p.points → Samples (surveyed p) (4 * cell_count p + k) (slice_index p.points k) (k + 1)
  sampling k lt =
      let a = 4 * cell_count p + k in
      let x = slice_index_or p.points k 0 in
      let e = sampling_deed p k lt in
      record {
        live = ap is_some e;
        at = record { here = ap (λ o. asked_by o 0) e; elsewhere = λ w n. ap (λ o. asked_by o w) e ∙ cond-false (w == 0) _ _ (ne_eqb w 0 n) };
        runs = λ s h. and_from _ _ (ap is_some e) (below_from (surveyed p).vars _ (λ v _. ap (λ o. agrees (asked_by o v) (s v)) e ∙ agreeing s x v h));
        runs_only_there = λ s h.
            let all = (and_parts ((surveyed p).act_live a) (all_below (surveyed p).vars (λ v. agrees ((surveyed p).pre a v) (s v))) h).1 in
            eqb-true (s 0) x (sym (ap (λ o. agrees (asked_by o 0) (s 0)) e) ∙ below_at (surveyed p).vars (λ v. agrees ((surveyed p).pre a v) (s v)) all 0 (omega arith));
        sets = record { here = ap (λ o. set_by o (k + 1)) e ∙ cond-true (k + 1 == k + 1) _ _ (eq-eqb (k + 1) (k + 1) refl); elsewhere = λ w n. ap (λ o. set_by o w) e ∙ cond-false (w == k + 1) _ _ (ne_eqb w (k + 1) n) };
      }

  low_moves : (a : ℕ) → a < 4 * cell_count p → (surveyed p).act_live a ≡ true → (c : ℕ) × (d : ℕ) × Moves (surveyed p) a c d
  low_moves a low h = ⊎_elim (λ m. m) (λ k. absurd (omega (arith, k.2))) (sorted a (deed_of p a) refl (deed_does p a) h)

  -- the price of an action, from its deed
  priced_by : (a : ℕ) (o : Option Deed) → deed_of p a ≡ o → (priced (surveyed p) (tariff_of p)).price a ≡ cond (is_some o) (cost_of p o) 0
  priced_by a o e = ap (λ o. cond (is_some o) (cost_of p o) 0) e

  pub floor_law : FloorLaw p (priced (surveyed p) (tariff_of p))
  floor_law = record {
    start_open = ok.start_open;
    starts = refl;
    variables = refl;
    values = λ x. refl;
    joins = λ c d from to h. joining c d from to (shared p c d ok.sides.some_wide (open_within p d to) h);
    joined = λ a c d m. let w = crossing a c d m in (w.from_open, w.to_open, sharing p c d ok.sides.some_wide _ w.next);
    move_costs = λ a c d m. priced_by a _ (move_deed a c d m);
    moves = low_moves;
    samples = sampling;
    sample_costs = λ k lt. priced_by _ _ (sampling_deed p k lt);
    no_other = λ a h. sorted a (deed_of p a) refl (deed_does p a) h;
    wanted = λ k lt. (init_of_point (k + 1) (omega arith), cond-false (k + 1 == 0) None _ (ne_eqb (k + 1) 0 (λ e. omega arith)) ∙ cond-true (nat_le (k + 1) (length p.points)) (Some 1) None (le-leb _ _ (omega arith)));
    no_other_goal = λ v x h. let t = goals_by_kind v x h in (v - 1, omega (arith, t.0, t.1), omega (arith, t.0));
  }
