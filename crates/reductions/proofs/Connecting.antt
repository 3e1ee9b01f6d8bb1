-- A value is marked exactly where free actions lead to it, so a variable is connected exactly where they lead everywhere.
use Rattle.std.proofs.Common.{◌≡◌, ℕ, Bool, true, false, not, ◌||◌, List, [], ◌∷◌, ◌++◌, set, replicate, Some, None, Option, sym, refl, ap, ◌∙◌, ⊎_elim, arith}
use Rattle.std.proofs.lemmas.Bool.{both_ways, cases_eq, cases_lt, eq-eqb}
use Rattle.std.proofs.lemmas.List.{length-set, length-replicate, get_or-replicate, get_or_past, get_or-set_same, get_or-set_other}
use Rattle.tasks.specs.Task.{Task, Lawful}
use Rattle.tasks.specs.Plans.{agrees}
use Rattle.tasks.proofs.Bounded.{below_at, below_from}
use Rattle.detours.proofs.FreePaths.{FreePath, path_append, value_few, path_leads, leads_path}
use Rattle.reductions.specs.Reaching.{marked_source, reachable_from, all_marked, connected}
use Rattle.reductions.specs.StepLaws.{ConnectedDecides}
use Rattle.reductions.proofs.Absent.{implied_at, implied_from}
use Rattle.reductions.proofs.Spreading.{marked, mark_again, Spreads, rounds_keep, Closed, rounds_closed}

-- the marks at the start
abbrev first_marks : ℕ → List Bool
first_marks c = set (replicate 64 false) c true

module _ (t : Task) (v c : ℕ) where
  -- free actions lead from c to r
  abbrev PathTo : ℕ → Type 0
  PathTo r = (list : List ℕ) × FreePath t v c list r

  -- and to each marked value
  abbrev Paths : List Bool → Type 0
  Paths marks = (r : ℕ) → marked marks r ≡ true → PathTo r

  first_path : Paths (first_marks c)
  first_path r m =
      ⊎_elim
      (λ same. ([], sym same))
      (λ apart. absurd (both_ways (marked (replicate 64 false) r) unmarked (sym (get_or-set_other (replicate 64 false) c r true false apart) ∙ m)))
      (cases_eq r c)
    where
      unmarked : marked (replicate 64 false) r ≡ false
      unmarked = ⊎_elim (get_or-replicate 64 r false false) (λ l. get_or_past (replicate 64 false) r false (let e = length-replicate 64 false in omega arith)) (cases_lt r 64)

  further_path : (marks : List Bool) (a w : ℕ) → Spreads t v marks a w → Paths marks → Paths (set marks w true)
  further_path marks a w h paths r m =
      ⊎_elim
      (λ same. onward same (t.pre a v) refl h.from)
      (λ apart. paths r (sym (get_or-set_other marks w r true false apart) ∙ m))
      (cases_eq r w)
    where
      through : r ≡ w → (u : ℕ) → agrees (t.pre a v) u ≡ true → PathTo u → PathTo r
      through same u fits path = (path.0 ++ (a ∷ []), path_append t v path.0 (a ∷ []) c u r path.1 (w, record { free = h.free; fits = fits; sets = h.sets }, sym same))

      onward : r ≡ w → (o : Option ℕ) → t.pre a v ≡ o → marked_source o marks ≡ true → PathTo r
      onward same None e from = through same c (ap (λ (q : Option ℕ). agrees q c) e) ([], refl)
      onward same (Some u) e from = through same u (ap (λ (q : Option ℕ). agrees q u) e ∙ eq-eqb u u refl) (paths u from)

  -- what is marked is reached
  pub marked_path : (r : ℕ) → marked (reachable_from t v c) r ≡ true → (list : List ℕ) × FreePath t v c list r
  marked_path = rounds_keep t v Paths further_path (t.size v) (first_marks c) first_path

-- a path from a marked value leads to marked values
closed_path : (t : Task) (v : ℕ) (marks : List Bool) → Closed t v marks → (list : List ℕ) (c r : ℕ) → marked marks c ≡ true → FreePath t v c list r → marked marks r ≡ true
closed_path t v marks closed [] c r m path = ap (marked marks) (sym path) ∙ m
closed_path t v marks closed (a ∷ rest) c r m path = closed_path t v marks closed rest path.0 r (closed c a path.0 path.1 m) path.2

module _ (t : Task) (law : Lawful t) (v : ℕ) where
  -- what is reached is marked
  pub path_marked : (c r : ℕ) → t.val_live v c ≡ true → (list : List ℕ) → FreePath t v c list r → marked (reachable_from t v c) r ≡ true
  path_marked c r live list path =
      let l = value_few t law v c live in
      let long = length-set (replicate 64 false) c true in
      let blank = length-replicate 64 false in
      let most = law.size_most v in
      closed_path t v (reachable_from t v c) (rounds_closed t law v (t.size v) (first_marks c) (omega arith) (omega arith)) list c r
      (rounds_keep t v (λ marks. marked marks c ≡ true) stays (t.size v) (first_marks c) (get_or-set_same (replicate 64 false) c true false (omega arith)))
      path
    where
      stays : (marks : List Bool) (a w : ℕ) → Spreads t v marks a w → marked marks c ≡ true → marked (set marks w true) c ≡ true
      stays marks a w h m =
          ⊎_elim
          (λ same. ap (λ (k : List Bool). marked k c) (mark_again marks w (ap (marked marks) (sym same) ∙ m)) ∙ m)
          (λ apart. get_or-set_other marks w c true false apart ∙ m)
          (cases_eq c w)

  -- a path leads from each live value to every other
  abbrev AllPaths : Type 0
  AllPaths = (c r : ℕ) → t.val_live v c ≡ true → t.val_live v r ≡ true → PathTo t v c r

  connected_at : connected t v ≡ true → AllPaths
  connected_at h c r live-c live-r =
      let marks = reachable_from t v c in
      let all = implied_at (t.val_live v c) (all_marked t v marks) (below_at (t.size v) (λ k. not (t.val_live v k) || all_marked t v (reachable_from t v k)) h c (law.val_in v c live-c)) live-c in
      marked_path t v c r (implied_at (t.val_live v r) (marked marks r) (below_at (t.size v) (λ k. not (t.val_live v k) || marked marks k) all r (law.val_in v r live-r)) live-r)

  connected_from : AllPaths → connected t v ≡ true
  connected_from paths =
      below_from (t.size v) (λ c. not (t.val_live v c) || all_marked t v (reachable_from t v c)) (λ c l. implied_from (t.val_live v c) (all_marked t v (reachable_from t v c)) (λ live-c.
      below_from (t.size v) (λ r. not (t.val_live v r) || marked (reachable_from t v c) r) (λ r k. implied_from (t.val_live v r) (marked (reachable_from t v c) r) (λ live-r.
      let path = paths c r live-c live-r in path_marked c r live-c path.0 path.1))))

pub connected_decides : ConnectedDecides
connected_decides p v law = record {
  leads = λ h c r live-c live-r.
      let path = connected_at p.task law v h c r live-c live-r in
      (path.0, λ s at. path_leads p.task law v path.0 s c r path.1 at);
  from_leads = λ h. connected_from p.task law v (λ c r live-c live-r.
      let list = h c r live-c live-r in
      (list.0, leads_path p.task law v list.0 (λ w. c) c r (list.1 (λ w. c) refl) refl));
}
