-- The labels that marks and totals stand for, entry by entry.
use Rattle.std.proofs.Common.{◌≡◌, ℕ, zero, suc, ◌<◌, ◌≤◌, false, List, [], ◌∷◌, length, get_or, set, replicate, Some, sym, refl, ap, ap₂, ◌∙◌, ⊎_elim, arith}
use Rattle.std.proofs.lemmas.Bool.{cases_lt}
use Rattle.std.proofs.lemmas.List.{get_or_past}
use Rattle.tasks.specs.Measures.{CostAlgebra}
use Rattle.detours.specs.declared.marks.Mark.{Mark}
use Rattle.detours.specs.Detours.{Label, unlabelled, begun}
use Rattle.detours.specs.declared.marks.Mark.TheVariants.{Unreached, Open, Settled}
use Rattle.detours.specs.declared.marks.Origin.{Origin}
use Rattle.detours.specs.Marks.{origin_of, origin_at, label_of, labels}

module _ {S : Type 0} where
  pub labels_length : (ks : List Mark) (xs : List S) → length ks ≡ length xs → length (labels ks xs) ≡ length ks
  labels_length [] xs e = refl
  labels_length (k ∷ ks) [] e = absurd (omega arith)
  labels_length (k ∷ ks) (x ∷ xs) e = ap suc (labels_length ks xs (omega arith))

  pub labels_short : (ks : List Mark) (xs : List S) → length (labels ks xs) ≤ length xs
  labels_short [] xs = omega arith
  labels_short (k ∷ ks) [] = omega arith
  labels_short (k ∷ ks) (x ∷ xs) = omega (arith, labels_short ks xs)

  pub labels_at : (ks : List Mark) (xs : List S) (i : ℕ) (d : Label S) (k : Mark) (x : S) → i < length ks → i < length xs → get_or (labels ks xs) i d ≡ label_of (get_or ks i k) (get_or xs i x)
  labels_at [] xs i d k x l h = absurd (omega arith)
  labels_at (j ∷ ks) [] i d k x l h = absurd (omega arith)
  labels_at (j ∷ ks) (y ∷ xs) zero d k x l h = refl
  labels_at (j ∷ ks) (y ∷ xs) (suc i) d k x l h = labels_at ks xs i d k x (omega arith) (omega arith)

  pub labels_set : (ks : List Mark) (xs : List S) (i : ℕ) (k : Mark) (x : S) → labels (set ks i k) (set xs i x) ≡ set (labels ks xs) i (label_of k x)
  labels_set [] xs i k x = refl
  labels_set (j ∷ ks) [] zero k x = refl
  labels_set (j ∷ ks) [] (suc i) k x = refl
  labels_set (j ∷ ks) (y ∷ xs) zero k x = refl
  labels_set (j ∷ ks) (y ∷ xs) (suc i) k x = ap (λ (l : List (Label S)). label_of j y ∷ l) (labels_set ks xs i k x)

  -- another mark, and the total as it was
  pub labels_mark : (ks : List Mark) (xs : List S) (i : ℕ) (k : Mark) (x : S) → i < length xs → labels (set ks i k) xs ≡ set (labels ks xs) i (label_of k (get_or xs i x))
  labels_mark [] xs i k x l = refl
  labels_mark (j ∷ ks) [] i k x l = absurd (omega arith)
  labels_mark (j ∷ ks) (y ∷ xs) zero k x l = refl
  labels_mark (j ∷ ks) (y ∷ xs) (suc i) k x l = ap (λ (r : List (Label S)). label_of j y ∷ r) (labels_mark ks xs i k x (omega arith))

  -- what led to a value, past the end too
  label_origin : (k : Mark) (x : S) → ((label_of k x).via ≡ (origin_of k).via) × ((label_of k x).from ≡ (origin_of k).from)
  label_origin Unreached x = (refl, refl)
  label_origin (Open o) x = (refl, refl)
  label_origin (Settled o) x = (refl, refl)

  module _ (m : CostAlgebra S) (ks : List Mark) (xs : List S) (long : length ks ≡ length xs) (i : ℕ) where
    same_origin : ((get_or (labels ks xs) i (unlabelled m)).via ≡ (origin_at ks i).via) × ((get_or (labels ks xs) i (unlabelled m)).from ≡ (origin_at ks i).from)
    same_origin =
        ⊎_elim
        (λ l.
        let e = labels_at ks xs i (unlabelled m) Unreached m.nothing l (omega arith) in
        let o = label_origin (get_or ks i Unreached) (get_or xs i m.nothing) in
        (ap (λ (k : Label S). k.via) e ∙ o.0, ap (λ (k : Label S). k.from) e ∙ o.1))
        (λ l.
        let e = get_or_past (labels ks xs) i (unlabelled m) (omega (arith, labels_length ks xs long)) in
        let k = ap origin_of (get_or_past ks i Unreached l) in
        (ap (λ (j : Label S). j.via) e ∙ sym (ap (λ (j : Origin). j.via) k), ap (λ (j : Label S). j.from) e ∙ sym (ap (λ (j : Origin). j.from) k)))
        (cases_lt i (length ks))

    pub via_is : (get_or (labels ks xs) i (unlabelled m)).via ≡ (origin_at ks i).via
    via_is = same_origin.0

    pub from_is : (get_or (labels ks xs) i (unlabelled m)).from ≡ (origin_at ks i).from
    from_is = same_origin.1

  -- the labels to start with
  blank_labels : (m : CostAlgebra S) (n : ℕ) (xs : List S) → length xs ≡ n → labels (replicate n Unreached) xs ≡ replicate n (unlabelled m)
  blank_labels m zero xs e = refl
  blank_labels m (suc n) [] e = absurd (omega arith)
  blank_labels m (suc n) (x ∷ xs) e = ap (λ (l : List (Label S)). unlabelled m ∷ l) (blank_labels m n xs (omega arith))

  pub labels_begun : (m : CostAlgebra S) (ks : List Mark) (xs : List S) (c i j : ℕ) (o : Origin) (x : S) → ks ≡ replicate 64 Unreached → length xs ≡ 64 → i ≡ c → j ≡ c → o ≡ record { via = 0; from = 0 } → x ≡ m.nothing → labels (set ks i (Open o)) (set xs j x) ≡ begun m c
  labels_begun m ks xs c i j o x is e at_i at_j blank none =
      ap₂ (λ (l : List Mark) (ys : List S). labels l ys) (ap₂ (λ (a : ℕ) (b : Origin). set ks a (Open b)) at_i blank) (ap₂ (λ (a : ℕ) (y : S). set xs a y) at_j none)
      ∙ labels_set ks xs c (Open (record { via = 0; from = 0 })) m.nothing
      ∙ ap (λ (es : List (Label S)). set es c (record { sum = Some m.nothing; via = 0; from = 0; done = false })) (ap (λ (l : List Mark). labels l xs) is ∙ blank_labels m 64 xs e)
