-- One value more is settled.
use Rattle.std.proofs.Common.{◌≡◌, ℕ, zero, suc, ◌+◌, ◌<◌, ◌≤◌, Bool, true, false, not, ◌&&◌, List, [], ◌∷◌, length, get_or, set, Some, None, Option, sym, refl, ap, ◌∙◌, ap₂, zero-add, arith}
use Rattle.std.proofs.lemmas.Bool.{and_parts, not-true}
use Rattle.tasks.specs.Plans.{agrees}
use Rattle.tasks.specs.Measures.{CostAlgebra}
use Rattle.detours.specs.declared.edges.Edge.{Edge}
use Rattle.detours.specs.declared.marks.Mark.{Mark}
use Rattle.detours.specs.declared.marks.Mark.TheVariants.{Unreached, Open, Settled}
use Rattle.detours.specs.Detours.{most_values, Label, unlabelled, improves, least_open, relax, total_at, closed}
use Rattle.detours.specs.Marks.{settled_of, label_of, labels}
use Rattle.detours.specs.EdgeSearch.{relax_edges, settle_edges}
use Rattle.detours.proofs.Sums.{no_sum}
use Rattle.detours.proofs.Labels.{sum_inside}
use Rattle.detours.proofs.MarkedLabels.{labels_short, labels_at, labels_mark}
use Rattle.detours.proofs.LeastLoop.{least_among}

-- how many values are not settled
one_unless : Bool → ℕ
one_unless true = 0
one_unless false = 1

pub unsettled : {S : Type 0} → List (Label S) → ℕ
unsettled [] = 0
unsettled (e ∷ es) = one_unless e.done + unsettled es

module _ {S : Type 0} (m : CostAlgebra S) where
  pub unsettled_most : (es : List (Label S)) → unsettled es ≤ length es
  unfolding unsettled one_unless
  unsettled_most [] = omega arith
  unsettled_most (e ∷ es) = go e.done (unsettled_most es)
    where
      go : (b : Bool) → unsettled es ≤ length es → one_unless b + unsettled es ≤ suc (length es)
      go true h = omega arith
      go false h = omega arith

  -- another label in the place of one that is not settled
  set_settled : (es : List (Label S)) (u : ℕ) (e : Label S) → u < length es → (get_or es u (unlabelled m)).done ≡ false → e.done ≡ true → unsettled es ≡ suc (unsettled (set es u e))
  unfolding unsettled one_unless
  set_settled [] u e l was is = absurd (omega arith)
  set_settled (k ∷ es) zero e l was is = let a = ap one_unless was in let b = ap one_unless is in omega arith
  set_settled (k ∷ es) (suc u) e l was is = omega (arith, set_settled es u e (omega arith) was is)

  set_open : (es : List (Label S)) (u : ℕ) (e : Label S) → (get_or es u (unlabelled m)).done ≡ false → e.done ≡ false → unsettled (set es u e) ≡ unsettled es
  unfolding unsettled one_unless
  set_open [] u e was is = refl
  set_open (k ∷ es) zero e was is = let a = ap one_unless was in let b = ap one_unless is in omega arith
  set_open (k ∷ es) (suc u) e was is = omega (arith, set_open es u e was is)

  relax_open : (es : List (Label S)) (u a : ℕ) (x : S) (y : ℕ) → unsettled (relax m es u a x (Some y)) ≡ unsettled es
  relax_open es u a x y = go (not (get_or es y (unlabelled m)).done && improves m x (get_or es y (unlabelled m)).sum) refl
    where
      go : (b : Bool) → (not (get_or es y (unlabelled m)).done && improves m x (get_or es y (unlabelled m)).sum) ≡ b → unsettled (elim b [ true ↦ set es y (record { sum = Some x; via = a; from = u; done = false }) | false ↦ es ]) ≡ unsettled es
      go true h = set_open es y _ (not-true (get_or es y (unlabelled m)).done (and_parts (not (get_or es y (unlabelled m)).done) (improves m x (get_or es y (unlabelled m)).sum) h).0) refl
      go false h = refl

  relax_edges_open : (u : ℕ) (x : S) (edges : List Edge) (es : List (Label S)) → unsettled (relax_edges m u x edges es) ≡ unsettled es
  relax_edges_open u x [] es = refl
  relax_edges_open u x (e ∷ rest) es = go (agrees e.from u) (relax_edges_open u x rest)
    where
      after : List (Label S)
      after = relax m es u e.action (m.join x (m.weight e.price)) (Some e.to)

      go : (b : Bool) → ((es2 : List (Label S)) → unsettled (relax_edges m u x rest es2) ≡ unsettled es2) → unsettled (elim b [ true ↦ relax_edges m u x rest (relax m es u e.action (m.join x (m.weight e.price)) (Some e.to)) | false ↦ relax_edges m u x rest es ]) ≡ unsettled es
      go true on = on (relax m es u e.action (m.join x (m.weight e.price)) (Some e.to)) ∙ relax_open es u e.action (m.join x (m.weight e.price)) e.to
      go false on = on es

  module _ (es : List (Label S)) (u : ℕ) (found : least_open m es 0 None None ≡ Some u) where
    -- the value that is found is not settled and has a total
    there : ((get_or es u (unlabelled m)).done ≡ false) × ((x : S) × ((get_or es u (unlabelled m)).sum ≡ Some x))
    there =
        least_among m (λ w. ((get_or es w (unlabelled m)).done ≡ false) × ((x : S) × ((get_or es w (unlabelled m)).sum ≡ Some x))) es 0 None None (λ w e. no_sum None w refl e)
        (λ n x d e. (ap (λ (w : ℕ). (get_or es w (unlabelled m)).done) (zero-add n) ∙ d, (x, ap (λ (w : ℕ). (get_or es w (unlabelled m)).sum) (zero-add n) ∙ e))) u found

    pub found_inside : u < length es
    found_inside = sum_inside m es u there.1.0 there.1.1

  -- so the marks and the totals have a place for it
  pub found_within : (ks : List Mark) (xs : List S) (u : ℕ) → least_open m (labels ks xs) 0 None None ≡ Some u → u < length xs
  found_within ks xs u found = omega (arith, found_inside (labels ks xs) u found, labels_short ks xs)

module _ {S : Type 0} (m : CostAlgebra S) (edges : List Edge) where
  -- the labels when u is settled and its edges are tried
  abbrev turn : List (Label S) → ℕ → List (Label S)
  turn es u = relax_edges m u (total_at m (get_or es u (unlabelled m)).sum) edges (set es u (closed m (get_or es u (unlabelled m))))

  next : ℕ → List (Label S) → Option ℕ → List (Label S)
  next fuel es o = elim o [ None ↦ es | Some u ↦ settle_edges m edges fuel (turn es u) ]

  pub turns_end : (fuel : ℕ) (es : List (Label S)) → least_open m es 0 None None ≡ None → settle_edges m edges fuel es ≡ es
  unfolding next
  turns_end zero es e = refl
  turns_end (suc fuel) es e = ap (next fuel es) e

  turn_first : (fuel : ℕ) (es : List (Label S)) (u : ℕ) → least_open m es 0 None None ≡ Some u → settle_edges m edges (suc fuel) es ≡ settle_edges m edges fuel (turn es u)
  unfolding next
  turn_first fuel es u e = ap (next fuel es) e

  turn_settles : (es : List (Label S)) (u : ℕ) → least_open m es 0 None None ≡ Some u → unsettled es ≡ suc (unsettled (turn es u))
  turn_settles es u found =
      set_settled m es u (closed m (get_or es u (unlabelled m))) (found_inside m es u found) (there m es u found).0 refl
      ∙ ap suc (sym (relax_edges_open m u (total_at m (get_or es u (unlabelled m)).sum) edges (set es u (closed m (get_or es u (unlabelled m))))))

  -- one turn for each value that is not settled suffices, and more change nothing
  turns_same : (a b : ℕ) (es : List (Label S)) → unsettled es ≤ a → unsettled es ≤ b → settle_edges m edges a es ≡ settle_edges m edges b es
  turns_same zero b es l k = go (least_open m es 0 None None) refl
    where
      go : (o : Option ℕ) → least_open m es 0 None None ≡ o → settle_edges m edges zero es ≡ settle_edges m edges b es
      go None e = turns_end zero es e ∙ sym (turns_end b es e)
      go (Some u) e = absurd (omega (arith, turn_settles es u e))
  turns_same (suc a) zero es l k = go (least_open m es 0 None None) refl
    where
      go : (o : Option ℕ) → least_open m es 0 None None ≡ o → settle_edges m edges (suc a) es ≡ settle_edges m edges zero es
      go None e = turns_end (suc a) es e ∙ sym (turns_end zero es e)
      go (Some u) e = absurd (omega (arith, turn_settles es u e))
  turns_same (suc a) (suc b) es l k = go (least_open m es 0 None None) refl (turns_same a b)
    where
      go : (o : Option ℕ) → least_open m es 0 None None ≡ o → ((es2 : List (Label S)) → unsettled es2 ≤ a → unsettled es2 ≤ b → settle_edges m edges a es2 ≡ settle_edges m edges b es2) → settle_edges m edges (suc a) es ≡ settle_edges m edges (suc b) es
      go None e rest = turns_end (suc a) es e ∙ sym (turns_end (suc b) es e)
      go (Some u) e rest =
          let one = turn_settles es u e in
          turn_first a es u e ∙ rest (turn es u) (omega arith) (omega arith) ∙ sym (turn_first b es u e)

  module _ (ks : List Mark) (xs : List S) (u : ℕ) (found : least_open m (labels ks xs) 0 None None ≡ Some u) (place : ℕ) (at : place ≡ u) (x : S) (k d : Mark) (mark_is : k ≡ settled_of (get_or ks place d)) (marked : u < length ks) where
    within : u < length xs
    within = found_within m ks xs u found

    label_is : get_or (labels ks xs) u (unlabelled m) ≡ label_of (get_or ks u d) (get_or xs u x)
    label_is = labels_at ks xs u (unlabelled m) d x marked within

    reached : (j : Mark) (y z : S) → (label_of j y).sum ≡ Some z → (label_of (settled_of j) y ≡ closed m (label_of j y)) × (total_at m (label_of j y).sum ≡ y)
    reached Unreached y z e = no_sum None z refl e
    reached (Open o) y z e = (refl, refl)
    reached (Settled o) y z e = (refl, refl)

    both : (label_of (settled_of (get_or ks u d)) (get_or xs u x) ≡ closed m (label_of (get_or ks u d) (get_or xs u x))) × (total_at m (label_of (get_or ks u d) (get_or xs u x)).sum ≡ get_or xs u x)
    both = let sum = (there m (labels ks xs) u found).1 in reached (get_or ks u d) (get_or xs u x) sum.0 (sym (ap (λ (e : Label S). e.sum) label_is) ∙ sum.1)

    put_is : labels (set ks place k) xs ≡ set (labels ks xs) u (closed m (get_or (labels ks xs) u (unlabelled m)))
    put_is =
        ap₂ (λ (i : ℕ) (j : Mark). labels (set ks i j) xs) at (mark_is ∙ ap (λ (i : ℕ). settled_of (get_or ks i d)) at)
        ∙ labels_mark ks xs u (settled_of (get_or ks u d)) x within
        ∙ ap (set (labels ks xs) u) (both.0 ∙ sym (ap (closed m) label_is))

    turn_is : relax_edges m u (get_or xs place x) edges (labels (set ks place k) xs) ≡ turn (labels ks xs) u
    turn_is = ap₂ (λ (y : S) (es : List (Label S)). relax_edges m u y edges es) (ap (λ (i : ℕ). get_or xs i x) at ∙ sym (ap (λ (e : Label S). total_at m e.sum) label_is ∙ both.1)) put_is

    -- the value is settled, and its edges are tried
    module _ (after : List (Label S)) (is : after ≡ relax_edges m u (get_or xs place x) edges (labels (set ks place k) xs)) where
      pub fewer : unsettled after < unsettled (labels ks xs)
      fewer = let e = ap unsettled (is ∙ turn_is) in omega (arith, turn_settles (labels ks xs) u found)

      pub turn_more : length xs ≤ 64 → settle_edges m edges most_values after ≡ settle_edges m edges most_values (labels ks xs)
      unfolding most_values
      turn_more few =
          let fuel = turn_settles (labels ks xs) u found in
          let most = unsettled_most m (labels ks xs) in
          let short = labels_short ks xs in
          ap (settle_edges m edges 64) (is ∙ turn_is) ∙ turns_same 64 63 (turn (labels ks xs) u) (omega arith) (omega arith) ∙ sym (turn_first 63 (labels ks xs) u found)
