-- The unsettled value of least total, as a loop finds it.
use Rattle.std.proofs.Common.{◌≡◌, ℕ, suc, ◌+◌, ◌<◌, ◌≤◌, Bool, true, false, ◌&&◌, List, [], ◌∷◌, length, get_or, drop, Some, None, Option, sym, refl, ap, ◌∙◌, subst, add-zero, add-one, arith}
use Rattle.std.proofs.lemmas.Bool.{false≢true}
use Rattle.std.proofs.lemmas.List.{at_drop_more, at_drop_all}
use Rattle.std.specs.Option.{MatchOption, IsSomeAnd}
use Rattle.tasks.specs.Optional.{some_inj}
use Rattle.tasks.specs.Measures.{CostAlgebra}
use Rattle.detours.specs.declared.marks.Mark.{Mark}
use Rattle.detours.specs.declared.marks.Mark.TheVariants.{Unreached, Open, Settled}
use Rattle.detours.specs.Detours.{Label, unlabelled, improves, least_open}
use Rattle.detours.specs.Marks.{is_open, label_of, labels, place_of}
use Rattle.detours.proofs.MarkedLabels.{labels_length, labels_short, labels_at}

module _ {S : Type 0} (m : CostAlgebra S) where
  -- the first label is better than the best so far, or is not
  module _ (rest : List (Label S)) (i : ℕ) (at : Option ℕ) (best : Option S) (x : S) where
    left_over : (k : Mark) → (is_open k && improves m x best) ≡ false → least_open m (label_of k x ∷ rest) i at best ≡ least_open m rest (suc i) at best
    left_over Unreached h = refl
    left_over (Settled o) h = refl
    left_over (Open o) h = ap (λ (b : Bool). elim b [ true ↦ least_open m rest (suc i) (Some i) (Some x) | false ↦ least_open m rest (suc i) at best ]) h

    taken_up : (k : Mark) → (is_open k && improves m x best) ≡ true → least_open m (label_of k x ∷ rest) i at best ≡ least_open m rest (suc i) (Some i) (Some x)
    taken_up Unreached h = absurd (false≢true h)
    taken_up (Settled o) h = absurd (false≢true h)
    taken_up (Open o) h = ap (λ (b : Bool). elim b [ true ↦ least_open m rest (suc i) (Some i) (Some x) | false ↦ least_open m rest (suc i) at best ]) h

  module _ (ks : List Mark) (xs : List S) (long : length ks ≡ length xs) where
    module _ (i : ℕ) (at : Option ℕ) (best : Option S) (d : Mark) (x : S) (l : i < length xs) (total_is : x ≡ get_or xs i x) where
      abbrev here : Bool
      here = is_open (get_or ks i d) && improves m x best

      abbrev rest : List (Label S)
      rest = drop (i + 1) (labels ks xs)

      first_is : least_open m (drop i (labels ks xs)) i at best ≡ least_open m (label_of (get_or ks i d) x ∷ rest) i at best
      first_is =
          at_drop_more (λ (es : List (Label S)). least_open m es i at best) (labels ks xs) i (unlabelled m) (omega (arith, labels_length ks xs long))
          ∙ ap (λ (e : Label S). least_open m (e ∷ rest) i at best) (labels_at ks xs i (unlabelled m) d x (omega arith) l ∙ ap (label_of (get_or ks i d)) (sym total_is))

      pub least_taken : here ≡ true → least_open m (drop i (labels ks xs)) i at best ≡ least_open m rest (i + 1) (Some i) (Some x)
      least_taken h = first_is ∙ taken_up rest i at best x (get_or ks i d) h ∙ ap (λ (j : ℕ). least_open m rest j (Some i) (Some x)) (sym (add-one i))

      pub least_left : here ≡ false → least_open m (drop i (labels ks xs)) i at best ≡ least_open m rest (i + 1) at best
      least_left h = first_is ∙ left_over rest i at best x (get_or ks i d) h ∙ ap (λ (j : ℕ). least_open m rest j at best) (sym (add-one i))

  pub least_end : (ks : List Mark) (xs : List S) (i : ℕ) (at : Option ℕ) (best : Option S) → length xs ≤ i → least_open m (drop i (labels ks xs)) i at best ≡ at
  least_end ks xs i at best l = at_drop_all (λ (es : List (Label S)). least_open m es i at best) (labels ks xs) i (omega (arith, labels_short ks xs))

  -- what holds of every label that is not settled and has a total holds of the one that is found
  pub least_among : (P : ℕ → Type 0) (es : List (Label S)) (i : ℕ) (at : Option ℕ) (best : Option S) → ((u : ℕ) → at ≡ Some u → P u) → ((n : ℕ) (x : S) → (get_or es n (unlabelled m)).done ≡ false → (get_or es n (unlabelled m)).sum ≡ Some x → P (i + n)) → (u : ℕ) → least_open m es i at best ≡ Some u → P u
  least_among P [] i at best so_far each u e = so_far u e
  least_among P (label ∷ es) i at best so_far each u e = go label.done label.sum refl refl (λ at2 best2 h. least_among P es (suc i) at2 best2 h (λ n x d s. let q : i + suc n ≡ suc i + n = omega arith in subst P q (each (suc n) x d s)) u) e
    where
      here : (x : S) → label.done ≡ false → label.sum ≡ Some x → (w : ℕ) → ◌≡◌ {A = Option ℕ} (Some i) (Some w) → P w
      here x d s w q = subst P (add-zero i ∙ some_inj i w q) (each 0 x d s)

      go : (settled : Bool) (sum : Option S) → label.done ≡ settled → label.sum ≡ sum → ((at2 : Option ℕ) (best2 : Option S) → ((w : ℕ) → at2 ≡ Some w → P w) → least_open m es (suc i) at2 best2 ≡ Some u → P u)
          → elim settled [
            | true ↦ least_open m es (suc i) at best
            | false ↦ elim sum [
              | None ↦ least_open m es (suc i) at best
              | Some y ↦ elim (improves m y best) [ true ↦ least_open m es (suc i) (Some i) (Some y) | false ↦ least_open m es (suc i) at best ]
            ]
          ] ≡ Some u
          → P u
      go true sum d s on q = on at best so_far q
      go false None d s on q = on at best so_far q
      go false (Some y) d s on q = pick (improves m y best) q
        where
          pick : (b : Bool) → elim b [ true ↦ least_open m es (suc i) (Some i) (Some y) | false ↦ least_open m es (suc i) at best ] ≡ Some u → P u
          pick true q2 = on (Some i) (Some y) (here y d s) q2
          pick false q2 = on at best so_far q2

-- the place of the best value, taken out by a closure
pub place_taken : {S : Type 0} (P : ℕ × S → ℕ → Type 0) → ((p : ℕ × S) (i : ℕ) → P p i → i ≡ p.0) → (o : Option (ℕ × S)) (r : Option ℕ) → MatchOption o (r ≡ None) (λ p. IsSomeAnd r (P p)) → r ≡ place_of o
place_taken P same None r h = h
place_taken P same (Some p) None h = absurd h
place_taken P same (Some p) (Some i) h = ap (λ (k : ℕ). Some k) (same p i h)
