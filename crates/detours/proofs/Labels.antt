-- The labels of a list as a function of the value, and the change of one of them.
use Rattle.std.proofs.Common.{◌≡◌, ℕ, ◌<◌, true, false, List, length, get_or, set, Some, sym, refl, ap, ◌∙◌, subst, ⊎_elim}
use Rattle.std.proofs.lemmas.Bool.{both_ways, cases_eq, cases_lt}
use Rattle.std.proofs.lemmas.List.{get_or-set_same, get_or-set_other, get_or_past}
use Rattle.tasks.specs.Measures.{CostAlgebra}
use Rattle.detours.specs.Detours.{Label, unlabelled}
use Rattle.detours.proofs.Sums.{no_sum}

abbrev pub Labelling : Type 0 → Type 0
Labelling S = ℕ → Label S

abbrev pub labels : {S : Type 0} (m : CostAlgebra S) → List (Label S) → Labelling S
labels m es i = get_or es i (unlabelled m)

-- g is f with the label of w replaced by e
pub record Relabelled {S : Type 0} (f g : Labelling S) (w : ℕ) (e : Label S) : Type 0 where
  pub here : g w ≡ e
  pub else : (i : ℕ) → (i ≡ w → ⊥) → g i ≡ f i

pub relabelled_set : {S : Type 0} (m : CostAlgebra S) (es : List (Label S)) (w : ℕ) (e : Label S) → w < length es → Relabelled (labels m es) (labels m (set es w e)) w e
relabelled_set m es w e l = record { here = get_or-set_same es w e (unlabelled m) l; else = λ i apart. get_or-set_other es w i e (unlabelled m) apart }

-- what holds of every label, by the new one and the others
pub relabelled_all : {S : Type 0} (f g : Labelling S) (w : ℕ) (e : Label S) → Relabelled f g w e → (P : ℕ → Label S → Type 0) → P w e → ((i : ℕ) → (i ≡ w → ⊥) → P i (f i)) → (i : ℕ) → P i (g i)
relabelled_all f g w e h P new old i =
    ⊎_elim
    (λ same. subst (λ (k : ℕ). P k (g k)) (sym same) (subst (P w) (sym h.here) new))
    (λ apart. subst (P i) (sym (h.else i apart)) (old i apart))
    (cases_eq i w)

-- a value with a total has its label in the list
pub sum_inside : {S : Type 0} (m : CostAlgebra S) (es : List (Label S)) (i : ℕ) (x : S) → (labels m es i).sum ≡ Some x → i < length es
sum_inside m es i x h = ⊎_elim (λ l. l) (λ l. no_sum (labels m es i).sum x (ap (λ e. e.sum) (get_or_past es i (unlabelled m) l)) h) (cases_lt i (length es))

-- the same values are settled in g as in f, and with the same labels
pub record SameSettled {S : Type 0} (f g : Labelling S) : Type 0 where
  pub kept : (i : ℕ) → (f i).done ≡ true → g i ≡ f i
  pub dones : (i : ℕ) → (g i).done ≡ (f i).done

pub same_settled_then : {S : Type 0} (f g k : Labelling S) → SameSettled f g → SameSettled g k → SameSettled f k
same_settled_then f g k one two = record { kept = λ i d. two.kept i (one.dones i ∙ d) ∙ one.kept i d; dones = λ i. two.dones i ∙ one.dones i }

-- a label that is not settled gives way to another
pub relabelled_open : {S : Type 0} (f g : Labelling S) (w : ℕ) (e : Label S) → Relabelled f g w e → (f w).done ≡ false → e.done ≡ false → SameSettled f g
relabelled_open f g w e h open-w open-e = record {
  kept = λ i d. h.else i (λ same. both_ways (f w).done open-w (ap (λ k. (f k).done) (sym same) ∙ d));
  dones = relabelled_all f g w e h (λ i l. l.done ≡ (f i).done) (open-e ∙ sym open-w) (λ i apart. refl);
}
