-- Tracing back, turn by turn.
use Rattle.std.proofs.Common.{reverse, ◌-◌, ◌≡◌, ℕ, zero, suc, ◌<◌, Bool, true, false, eqb, List, [], ◌∷◌, length, get_or, ◌++◌, Some, None, Option, ◌≤◌, ◌⊎◌, ⊎_elim, sym, refl, ap, ◌∙◌, ap₂, arith, length-append}
use Rattle.std.proofs.lemmas.List.{append-nil, take_all, drop_all, reverse-append, length-reverse}
use Rattle.std.specs.List.{refill}
use Rattle.tasks.specs.Measures.{CostAlgebra}
use Rattle.detours.specs.declared.marks.Mark.{Mark}
use Rattle.detours.specs.declared.marks.Mark.TheVariants.{Unreached, Open, Settled}
use Rattle.detours.specs.Detours.{Label, Found, unlabelled, most_values, trace_back, led_to, read_off}
use Rattle.detours.specs.Marks.{origin_at, label_of, labels, trace_marks}
use Rattle.detours.proofs.MarkedLabels.{labels_at, via_is, from_is}

refilled : (xs ws : List ℕ) → length ws ≡ length xs → refill (length xs) xs ws ≡ ws
refilled xs ws e = rw (drop_all (length ws) xs (omega arith), append-nil) (take_all (length xs) ws (omega arith))

-- by the labels or by the marks
pub trace_same : {S : Type 0} (m : CostAlgebra S) (ks : List Mark) (xs : List S) → length ks ≡ length xs → (c fuel r : ℕ) (acc : List ℕ) → trace_back m (labels ks xs) c fuel r acc ≡ trace_marks ks c fuel r acc
trace_same m ks xs long c zero r acc = refl
trace_same m ks xs long c (suc fuel) r acc = go (eqb r c) (trace_same m ks xs long c fuel)
  where
    go : (b : Bool) → ((r2 : ℕ) (acc2 : List ℕ) → trace_back m (labels ks xs) c fuel r2 acc2 ≡ trace_marks ks c fuel r2 acc2)
        → ◌≡◌ {A = List ℕ} (elim b [ true ↦ acc | false ↦ trace_back m (labels ks xs) c fuel (get_or (labels ks xs) r (unlabelled m)).from ((get_or (labels ks xs) r (unlabelled m)).via ∷ acc) ])
        (elim b [ true ↦ acc | false ↦ trace_marks ks c fuel (origin_at ks r).from ((origin_at ks r).via ∷ acc) ])
    go true on = refl
    go false on =
        ap₂ (λ (w a : ℕ). trace_back m (labels ks xs) c fuel w (a ∷ acc)) (from_is m ks xs long r) (via_is m ks xs long r)
        ∙ on (origin_at ks r).from ((origin_at ks r).via ∷ acc)

module _ (ks : List Mark) (c : ℕ) where
  next : ℕ → ℕ → List ℕ → Bool → List ℕ
  next fuel r acc b = elim b [ true ↦ acc | false ↦ trace_marks ks c fuel (origin_at ks r).from ((origin_at ks r).via ∷ acc) ]

  pub trace_ends : (fuel r : ℕ) (acc : List ℕ) → eqb r c ≡ true → trace_marks ks c fuel r acc ≡ acc
  unfolding next
  trace_ends zero r acc e = refl
  trace_ends (suc fuel) r acc e = ap (next fuel r acc) e

  -- one action is written behind those that are written back to front
  pub trace_more : (n r : ℕ) (xs ys : List ℕ) → ys ≡ xs ++ ((origin_at ks r).via ∷ []) → length xs < n → eqb r c ≡ false → trace_marks ks c (n - length ys) (origin_at ks r).from (reverse ys) ≡ trace_marks ks c (n - length xs) r (reverse xs)
  unfolding next
  trace_more n r xs ys is l e =
      let a = (origin_at ks r).via in
      let one = ap length is ∙ length-append xs (a ∷ []) in
      let fuel : n - length xs ≡ suc (n - length ys) = omega arith in
      ap (trace_marks ks c (n - length ys) (origin_at ks r).from) (ap reverse is ∙ reverse-append xs (a ∷ []))
      ∙ sym (ap (λ (f : ℕ). trace_marks ks c f r (reverse xs)) fuel ∙ ap (next (n - length ys) r (reverse xs)) e)

  -- they are turned round once the trace is at its start, or the list is full
  pub trace_done : (n r : ℕ) (xs ys zs all : List ℕ) → ys ≡ xs → zs ≡ reverse ys → (eqb r c ≡ true) ⊎ (n ≤ length xs) → trace_marks ks c (n - length xs) r (reverse xs) ≡ all → refill (length xs) xs zs ≡ all
  trace_done n r xs ys zs all read turned ends is = refilled xs zs (ap length front ∙ length-reverse xs) ∙ front ∙ sym (⊎_elim (trace_ends (n - length xs) r (reverse xs)) full ends) ∙ is
    where
      front : zs ≡ reverse xs
      front = turned ∙ ap reverse read

      full : n ≤ length xs → trace_marks ks c (n - length xs) r (reverse xs) ≡ reverse xs
      full l = let e : n - length xs ≡ zero = omega arith in ap (λ (f : ℕ). trace_marks ks c f r (reverse xs)) e

-- the path to a value, by its mark
module _ {S : Type 0} (m : CostAlgebra S) (ks : List Mark) (xs : List S) (long : length ks ≡ length xs) (c r : ℕ) (within : r < length xs) where
  sum_is : (i : ℕ) → i ≡ r → (x : S) (k : Mark) → get_or ks r Unreached ≡ k → (get_or (labels ks xs) r (unlabelled m)).sum ≡ (label_of k (get_or xs i x)).sum
  sum_is i at x k is = ap (λ (e : Label S). e.sum) (labels_at ks xs r (unlabelled m) Unreached x (omega arith) within) ∙ ap₂ (λ (j : Mark) (a : ℕ). (label_of j (get_or xs a x)).sum) is (sym at)

  pub unreached : get_or ks r Unreached ≡ Unreached → ◌≡◌ {A = Option (Found S)} None (read_off m (labels ks xs) c r)
  unreached e = sym (ap (led_to m (labels ks xs) c r) (sum_is r refl m.nothing Unreached e))

  pub path_read : (i : ℕ) → i ≡ r → (x : S) (k : Mark) → get_or ks r Unreached ≡ k → (k ≡ Unreached → ⊥) → (found : Found S) → found ≡ record { actions = trace_marks ks c most_values r []; total = get_or xs i x } → Some found ≡ read_off m (labels ks xs) c r
  path_read i at x k e reached found f = go k (sum_is i at x k e) reached
    where
      ends : (get_or (labels ks xs) r (unlabelled m)).sum ≡ Some (get_or xs i x) → Some found ≡ read_off m (labels ks xs) c r
      ends sum =
          ap (λ (d : Found S). Some d) (f ∙ ap (λ (list : List ℕ). record { actions = list; total = get_or xs i x }) (sym (trace_same m ks xs long c most_values r [])))
          ∙ sym (ap (led_to m (labels ks xs) c r) sum)

      go : (j : Mark) → (get_or (labels ks xs) r (unlabelled m)).sum ≡ (label_of j (get_or xs i x)).sum → (j ≡ Unreached → ⊥) → Some found ≡ read_off m (labels ks xs) c r
      go Unreached sum apart = absurd (apart refl)
      go (Open o) sum apart = ends sum
      go (Settled o) sum apart = ends sum
