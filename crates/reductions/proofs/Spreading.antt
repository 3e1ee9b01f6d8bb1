-- How marks spread: what holds of them from round to round, and that as many rounds as v has values leave none to be marked.
use Rattle.std.proofs.Common.{◌≡◌, ℕ, zero, suc, ◌+◌, ◌<◌, ◌≤◌, Bool, true, false, ◌&&◌, ◌⊎◌, List, length, get_or, set, Some, None, Option, sym, refl, ap, ◌∙◌, subst, inl, inr, ⊎_elim, arith}
use Rattle.std.proofs.lemmas.Bool.{cases_eq, cases_Bool, and_parts, and_from, eqb-true}
use Rattle.std.proofs.lemmas.List.{length-set, get_or-set_same, get_or-set_other, set-get_or}
use Rattle.tasks.specs.Task.{Task, Lawful}
use Rattle.tasks.specs.Plans.{agrees}
use Rattle.detours.specs.Free.{is_free}
use Rattle.detours.proofs.Counting.{count, count_more, count_all}
use Rattle.detours.proofs.FreePaths.{FreeStep, step_act}
use Rattle.reductions.specs.Reaching.{marked_source, mark, mark_targets, mark_reachable}

-- whether i is marked
abbrev pub marked : List Bool → ℕ → Bool
marked marks i = get_or marks i false

pub mark_again : (marks : List Bool) (w : ℕ) → marked marks w ≡ true → set marks w true ≡ marks
mark_again marks w m = ap (set marks w) (sym m) ∙ set-get_or marks w false

-- the free action a leads from a marked value to w
pub record Spreads (t : Task) (v : ℕ) (marks : List Bool) (a w : ℕ) : Type 0 where
  pub free : is_free t v a ≡ true
  pub from : marked_source (t.pre a v) marks ≡ true
  pub sets : t.eff a v ≡ Some w

module _ (t : Task) (v : ℕ) where
  abbrev spreads : ℕ → List Bool → Bool
  spreads a marks = is_free t v a && marked_source (t.pre a v) marks

  abbrev marks_if : ℕ → List Bool → Bool → List Bool
  marks_if a marks b = elim b [ true ↦ mark (t.eff a v) marks | false ↦ marks ]

  -- the marks after one action
  abbrev marks_after : ℕ → List Bool → List Bool
  marks_after a marks = marks_if a marks (spreads a marks)

  targets_step : (n a : ℕ) (marks : List Bool) → mark_targets t v (suc n) a marks ≡ mark_targets t v n (suc a) (marks_after a marks)
  targets_step n a marks = go (spreads a marks)
    where
      go : (b : Bool) → elim b [ true ↦ mark_targets t v n (suc a) (mark (t.eff a v) marks) | false ↦ mark_targets t v n (suc a) marks ] ≡ mark_targets t v n (suc a) (marks_if a marks b)
      go true = refl
      go false = refl

  spread_marks : (marks : List Bool) (a w : ℕ) → Spreads t v marks a w → marks_after a marks ≡ set marks w true
  spread_marks marks a w h = ap (marks_if a marks) (and_from (is_free t v a) (marked_source (t.pre a v) marks) h.free h.from) ∙ ap (λ (o : Option ℕ). mark o marks) h.sets

  spread_or_same : (marks : List Bool) (a : ℕ) → ((w : ℕ) × Spreads t v marks a w) ⊎ (marks_after a marks ≡ marks)
  spread_or_same marks a = go (spreads a marks) refl (t.eff a v) refl
    where
      go : (b : Bool) → spreads a marks ≡ b → (o : Option ℕ) → t.eff a v ≡ o → ((w : ℕ) × Spreads t v marks a w) ⊎ (marks_after a marks ≡ marks)
      go true e (Some w) sets = let both = and_parts (is_free t v a) (marked_source (t.pre a v) marks) e in inl (w, record { free = both.0; from = both.1; sets = sets })
      go true e None sets = inr (ap (marks_if a marks) e ∙ ap (λ (o : Option ℕ). mark o marks) sets)
      go false e o sets = inr (ap (marks_if a marks) e)

  -- what each new mark keeps holds of the marks to the end
  module _ (P : List Bool → Type 0) (keeps : (marks : List Bool) (a w : ℕ) → Spreads t v marks a w → P marks → P (set marks w true)) where
    after_keeps : (a : ℕ) (marks : List Bool) → P marks → P (marks_after a marks)
    after_keeps a marks h =
        ⊎_elim
        (λ (q : (w : ℕ) × Spreads t v marks a w). subst P (sym (spread_marks marks a q.0 q.1)) (keeps marks a q.0 q.1 h))
        (λ same. subst P (sym same) h)
        (spread_or_same marks a)

    targets_keep : (n a : ℕ) (marks : List Bool) → P marks → P (mark_targets t v n a marks)
    targets_keep zero a marks h = h
    targets_keep (suc n) a marks h = subst P (sym (targets_step n a marks)) (targets_keep n (suc a) (marks_after a marks) (after_keeps a marks h))

    pub rounds_keep : (n : ℕ) (marks : List Bool) → P marks → P (mark_reachable t v n marks)
    rounds_keep zero marks h = h
    rounds_keep (suc n) marks h = rounds_keep n (mark_targets t v t.acts 0 marks) (targets_keep t.acts 0 marks h)

  -- there is a place for each value
  abbrev pub Wide : List Bool → Type 0
  Wide marks = t.size v ≤ length marks

  -- free actions lead from marked values to marked ones only
  abbrev pub Closed : List Bool → Type 0
  Closed marks = (u a w : ℕ) → FreeStep t v u a w → marked marks u ≡ true → marked marks w ≡ true

  -- none of n actions from a on marks a value
  abbrev Still : List Bool → ℕ → ℕ → Type 0
  Still marks n a = (b : ℕ) → a ≤ b → b < a + n → marks_after b marks ≡ marks

  abbrev pub marked_values : List Bool → ℕ
  marked_values marks = count (marked marks) (t.size v)

  wide_set : (marks : List Bool) (a w : ℕ) → Spreads t v marks a w → Wide marks → Wide (set marks w true)
  wide_set marks a w h wide = let e = length-set marks w true in omega arith

  still_targets : (n a : ℕ) (marks : List Bool) → Still marks n a → mark_targets t v n a marks ≡ marks
  still_targets zero a marks still = refl
  still_targets (suc n) a marks still =
      targets_step n a marks
      ∙ ap (mark_targets t v n (suc a)) (still a (omega arith) (omega arith))
      ∙ still_targets n (suc a) marks (λ b low high. still b (omega arith) (omega arith))

  still_rounds : (n : ℕ) (marks : List Bool) → mark_targets t v t.acts 0 marks ≡ marks → mark_reachable t v n marks ≡ marks
  still_rounds zero marks same = refl
  still_rounds (suc n) marks same = ap (mark_reachable t v n) same ∙ still_rounds n marks same

module _ (t : Task) (law : Lawful t) (v : ℕ) where
  -- an action marks one value more or none
  one_more : (marks : List Bool) (a : ℕ) → Wide t v marks → (marked_values t v (marks_after t v a marks) ≡ suc (marked_values t v marks)) ⊎ (marks_after t v a marks ≡ marks)
  one_more marks a wide = ⊎_elim (λ q. new q.0 q.1) inr (spread_or_same t v marks a)
    where
      new : (w : ℕ) → Spreads t v marks a w → (marked_values t v (marks_after t v a marks) ≡ suc (marked_values t v marks)) ⊎ (marks_after t v a marks ≡ marks)
      new w h =
          let e = spread_marks t v marks a w h in
          let l = law.val_in v w (law.eff_val a v w h.sets) in
          ⊎_elim
          (λ m. inr (e ∙ mark_again marks w m))
          (λ m. inl (ap (marked_values t v) e ∙ count_more (marked marks) (marked (set marks w true)) w (t.size v) l m (get_or-set_same marks w true false (omega arith)) (λ i apart. get_or-set_other marks w i true false apart)))
          (cases_Bool (marked marks w))

  more_or_still : (n a : ℕ) (marks : List Bool) → Wide t v marks → (marked_values t v marks < marked_values t v (mark_targets t v n a marks)) ⊎ Still t v marks n a
  more_or_still zero a marks wide = inr (λ b low high. absurd (omega arith))
  more_or_still (suc n) a marks wide =
      let next = marks_after t v a marks in
      let end = ap (marked_values t v) (targets_step t v n a marks) in
      ⊎_elim
      (λ one. inl (⊎_elim
      (λ more. omega arith)
      (λ still. let same = ap (marked_values t v) (still_targets t v n (suc a) next still) in omega arith)
      (more_or_still n (suc a) next (after_keeps t v (Wide t v) (wide_set t v) a marks wide))))
      (λ same. ⊎_elim
      (λ more. inl (let first = ap (λ (k : List Bool). marked_values t v (mark_targets t v n (suc a) k)) same in omega arith))
      (λ still. inr (λ b low high. ⊎_elim (λ e. subst (λ (k : ℕ). marks_after t v k marks ≡ marks) (sym e) same) (λ apart. still b (omega arith) (omega arith)) (cases_eq b a)))
      (more_or_still n (suc a) marks wide))
      (one_more marks a wide)

  still_closed : (marks : List Bool) → Wide t v marks → Still t v marks t.acts 0 → Closed t v marks
  still_closed marks wide still u a w step m =
      let l = law.val_in v w (law.eff_val a v w step.sets) in
      let k = step_act t law v u a w step in
      ap (λ (k : List Bool). marked k w) (sym (still a (omega arith) (omega arith)) ∙ spread_marks t v marks a w spread) ∙ get_or-set_same marks w true false (omega arith)
    where
      source : (o : Option ℕ) → agrees o u ≡ true → marked_source o marks ≡ true
      source None e = refl
      source (Some x) e = ap (marked marks) (sym (eqb-true u x e)) ∙ m

      spread : Spreads t v marks a w
      spread = record { free = step.free; from = source (t.pre a v) step.fits; sets = step.sets }

  -- each round marks a value more until the marks are closed
  pub rounds_closed : (n : ℕ) (marks : List Bool) → Wide t v marks → t.size v ≤ n + marked_values t v marks → Closed t v (mark_reachable t v n marks)
  rounds_closed zero marks wide enough = λ u a w step m. count_all (marked marks) (t.size v) (omega arith) w (law.val_in v w (law.eff_val a v w step.sets))
  rounds_closed (suc n) marks wide enough =
      ⊎_elim
      (λ more. rounds_closed n (mark_targets t v t.acts 0 marks) (targets_keep t v (Wide t v) (wide_set t v) t.acts 0 marks wide) (omega arith))
      (λ still. subst (Closed t v) (sym (still_rounds t v (suc n) marks (still_targets t v t.acts 0 marks still))) (still_closed marks wide still))
      (more_or_still t.acts 0 marks wide)
