-- An action that a list of others stands in for is retired: a plan goes over.
use Rattle.std.proofs.Common.{◌≡◌, ℕ, ◌≤◌, Bool, true, false, not, ◌&&◌, eqb, leb, List, [], ◌∷◌, length, Some, None, Option, sym, refl, ap, ◌∙◌, ⊎_elim, arith}
use Rattle.std.proofs.lemmas.Bool.{false≢true, and_parts, or_parts, or_from, not-false, cases_lt, eqb-true}
use Rattle.tasks.specs.Bounds.{all_below}
use Rattle.tasks.specs.Task.{Task, Priced, Lawful}
use Rattle.tasks.specs.Plans.{State, over, after, Solvable}
use Rattle.tasks.specs.Runs.{Meets}
use Rattle.tasks.specs.Optional.{none_some, some_inj, guard_some}
use Rattle.tasks.proofs.Bounded.{below_at}
use Rattle.tasks.proofs.Lawful.{over_none, pre_below, eff_past}
use Rattle.tasks.proofs.Running.{Leads, leads_map}
use Rattle.detours.specs.Free.{absent}
use Rattle.reductions.specs.Steps.{action, Known, overridden, needs_known, known_after, is_set_by, stands_in, has_effect_of, fits}
use Rattle.reductions.specs.Acceptance.{listable, all_in, names_live, accepted}
use Rattle.reductions.specs.Applying.{without, every, task_after}
use Rattle.reductions.proofs.Absent.{absent_none, has_value_at, same_value_at}
use Rattle.reductions.proofs.Retiring.{AgreeOn, retained_eff, retiring_solvable}

-- what an accepted action step says of its list
pub record Replaces (t : Task) (a : ℕ) (list : List ℕ) : Type 0 where
  pub others : all_in (listable t a) list ≡ true
  pub known : Known
  pub ends : known_after t (t.pre a) list ≡ Some known
  pub restores : has_effect_of t a list (Some known) ≡ true

pub action_at : (p : Priced) (a : ℕ) (list : List ℕ) → accepted p (action a list) ≡ true → Replaces p.task a list
action_at p a list h = go (known_after t (t.pre a) list) refl both.1
  where
    t : Task
    t = p.task

    both : (names_live p.task (action a list) ≡ true) × (fits p (action a list) ≡ true)
    both = and_parts (names_live p.task (action a list)) (fits p (action a list)) h

    go : (o : Option Known) → known_after t (t.pre a) list ≡ o → has_effect_of t a list o ≡ true → Replaces t a list
    go None e r = absurd (false≢true r)
    go (Some k) e r = record { others = (and_parts (t.act_live a && leb (length list) 8) (all_in (listable t a) list) both.0).1; known = k; ends = e; restores = r }

needs_at : (o k : Option ℕ) (x : ℕ) → needs_known o k ≡ true → o ≡ Some x → k ≡ Some x
needs_at None k x e p = none_some None x refl p
needs_at (Some y) k x e p = has_value_at y k e ∙ p

overridden_at : (o k : Option ℕ) (u x : ℕ) → ((y : ℕ) → k ≡ Some y → u ≡ y) → overridden o k ≡ Some x → over o u ≡ x
overridden_at None k u x h e = h x e
overridden_at (Some y) k u x h e = some_inj y x e

-- what is known one action further
abbrev known_next : Task → Known → ℕ → Known
known_next t k c = λ w. overridden (t.eff c w) (k w)

known_step : (t : Task) (k k' : Known) (c : ℕ) (cs : List ℕ) → known_after t k (c ∷ cs) ≡ Some k' → (all_below t.vars (λ w. needs_known (t.pre c w) (k w)) ≡ true) × (known_after t (known_next t k c) cs ≡ Some k')
known_step t k k' c cs = go (all_below t.vars (λ w. needs_known (t.pre c w) (k w)))
  where
    go : (b : Bool) → ◌≡◌ {A = Option Known} (elim b [ true ↦ known_after t (known_next t k c) cs | false ↦ None ]) (Some k') → (b ≡ true) × (known_after t (known_next t k c) cs ≡ Some k')
    go true e = (refl, e)
    go false e = let z : ◌≡◌ {A = ℕ} 0 1 = cc in absurd (omega arith)

set_past : (t : Task) → Lawful t → (list : List ℕ) (w : ℕ) → t.vars ≤ w → is_set_by t list w ≡ false
set_past t law [] w l = refl
set_past t law (c ∷ cs) w l = or_from (not (absent (t.eff c w))) (is_set_by t cs w) (ap (λ (o : Option ℕ). not (absent o)) (eff_past t law c w l)) (set_past t law cs w l)

-- what `stands-in` says of one variable, which is u before the list and u' after it
stands_in_at : (o q : Option ℕ) (b : Bool) (k : Option ℕ) (u u' : ℕ) → stands_in o q b k ≡ true → ((x : ℕ) → k ≡ Some x → u' ≡ x) → ((x : ℕ) → q ≡ Some x → u ≡ x) → (b ≡ false → u' ≡ u) → u' ≡ over o u
stands_in_at (Some y) q b k u u' e knows met leaves = knows y (has_value_at y k e)
stands_in_at None q false k u u' e knows met leaves = leaves refl
stands_in_at None None true k u u' e knows met leaves = absurd (false≢true e)
stands_in_at None (Some x) true k u u' e knows met leaves = knows x (sym (same_value_at (Some x) k e)) ∙ sym (met x refl)

module _ (t : Task) (law : Lawful t) (a : ℕ) where
  -- the task without a
  abbrev remaining : Task
  remaining = without t (λ c. not (eqb c a)) every

  -- what holds where the list ends
  record Followed (list : List ℕ) (k : Known) (u u' : State) : Type 0 where
    knows : Meets k u'
    leaves : (w : ℕ) → is_set_by t list w ≡ false → u' w ≡ u w

  -- a list whose needs are known can be run without a
  known_leads : (list : List ℕ) (k k' : Known) (u : State) → Meets k u → all_in (listable t a) list ≡ true → known_after t k list ≡ Some k' → Leads remaining u list (Followed list k' u)
  known_leads [] k k' u h live e =
      let q : k ≡ k' = cc in
      record { knows = λ w x p. h w x (ap (λ (f : Known). f w) q ∙ p); leaves = λ w unset. refl }
  known_leads (c ∷ cs) k k' u h live e =
      let first = known_step t k k' c cs e in
      let here = and_parts (listable t a c) (all_in (listable t a) cs) live in
      let stays = (and_parts (t.act_live c) (not (eqb c a)) here.0).1 in
      let same : (w : ℕ) → remaining.eff c w ≡ t.eff c w = λ w. retained_eff t (λ d. not (eqb d a)) every c w stays refl in (
        record {
          live = here.0;
          holds = λ w x q.
              let p = (guard_some (not (eqb c a) && every w) (t.pre c w) x q).1 in
              h w x (needs_at (t.pre c w) (k w) x (below_at t.vars (λ n. needs_known (t.pre c n) (k n)) first.0 w (pre_below t law c w x p)) p);
        },
        leads_map remaining cs (after remaining u c) (Followed cs k' (after remaining u c)) (Followed (c ∷ cs) k' u)
            (λ u' f. record {
              knows = f.knows;
              leaves = λ w unset.
                  let parts = or_parts (not (absent (t.eff c w))) (is_set_by t cs w) unset in
                  f.leaves w parts.1 ∙ over_none (remaining.eff c w) (u w) (same w ∙ absent_none (t.eff c w) (not-false (absent (t.eff c w)) parts.0));
            })
            (known_leads cs (known_next t k c) k' (after remaining u c)
            (λ w x q. ap (λ (o : Option ℕ). over o (u w)) (same w) ∙ overridden_at (t.eff c w) (k w) (u w) x (h w) q)
            here.1 first.1),
      )

  -- the list ends where a leads
  restored : (list : List ℕ) (k : Known) → has_effect_of t a list (Some k) ≡ true → (u u' : State) → Meets (t.pre a) u → Followed list k u u' → (w : ℕ) → u' w ≡ after t u a w
  restored list k r u u' met f w =
      ⊎_elim
      (λ l. stands_in_at (t.eff a w) (t.pre a w) (is_set_by t list w) (k w) (u w) (u' w) (below_at t.vars (λ n. stands_in (t.eff a n) (t.pre a n) (is_set_by t list n) (k n)) r w l) (f.knows w) (met w) (f.leaves w))
      (λ l. f.leaves w (set_past t law list w l) ∙ sym (over_none (t.eff a w) (u w) (eff_past t law a w l)))
      (cases_lt w t.vars)

  pub action_solvable : (list : List ℕ) → Replaces t a list → Solvable t → Solvable (task_after t (action a list))
  action_solvable list g =
      retiring_solvable t (λ c. not (eqb c a)) every (λ c. list)
      (λ s s' c retired agree runs.
      let same = eqb-true c a (not-false (eqb c a) retired) in
      let met : Meets (t.pre a) s' = λ v x e. agree v refl ∙ runs.holds v x (ap (λ (d : ℕ). t.pre d v) same ∙ e) in
      leads_map remaining list s' (Followed list g.known s') (AgreeOn every (after t s c))
      (λ u f w here. restored list g.known g.restores s' u met f w ∙ ap (over (t.eff a w)) (agree w refl) ∙ ap (λ (d : ℕ). over (t.eff d w) (s w)) (sym same))
      (known_leads list (t.pre a) g.known s' met g.others g.ends))
      law
