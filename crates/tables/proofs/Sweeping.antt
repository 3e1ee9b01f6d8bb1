-- An array that a loop changes entry by entry.
use Rattle.std.proofs.Common.{◌≡◌, ℕ, ◌+◌, ◌<◌, ◌≤◌, List, length, get_or, set, sym, subst, ◌∙◌, ⊎_elim, arith, length-set, get_or-set_other, get_or-set_same}
use Rattle.std.proofs.lemmas.List.{get_or_past}
use Rattle.std.proofs.lemmas.Bool.{cases_lt, cases_eq}

-- the first n entries stand in a relation to the old ones, and the others are the old ones; d is read past the end
pub record Swept {A : Type 0} (R : A → A → Type 0) (d : A) (old new : List A) (n : ℕ) : Type 0 where
  pub as_long : length new ≡ length old
  pub passed : (k : ℕ) → k < n → R (get_or old k d) (get_or new k d)
  pub ahead : (k : ℕ) → n ≤ k → get_or new k d ≡ get_or old k d

module _ {A : Type 0} (R : A → A → Type 0) (d : A) (old new : List A) (n : ℕ) (h : Swept R d old new n) where
  pub one_swept : (x : A) → n < length old → R (get_or new n d) x → Swept R d old (set new n x) (n + 1)
  one_swept x within here = record {
    as_long = length-set new n x ∙ h.as_long;
    passed = λ k below. ⊎_elim
        (λ same. subst (λ (j : ℕ). R (get_or old j d) (get_or (set new n x) j d)) (sym same)
        (subst (λ (y : A). R y (get_or (set new n x) n d)) (h.ahead n (omega arith)) (subst (R (get_or new n d)) (sym (get_or-set_same new n x d (omega (arith, h.as_long)))) here)))
        (λ apart. subst (R (get_or old k d)) (sym (get_or-set_other new n k x d apart)) (h.passed k (omega arith)))
        (cases_eq k n);
    ahead = λ k past. get_or-set_other new n k x d (λ same. omega arith) ∙ h.ahead k (omega arith);
  }

  pub all_swept : R d d → length old ≤ n → (k : ℕ) → R (get_or old k d) (get_or new k d)
  all_swept both long k = ⊎_elim (h.passed k) (λ past. absent past (get_or_past old k d (omega arith))) (cases_lt k n)
    where
      absent : n ≤ k → get_or old k d ≡ d → R (get_or old k d) (get_or new k d)
      absent past gone = subst (λ (y : A). R y (get_or new k d)) (sym gone) (subst (R d) (sym (h.ahead k past ∙ gone)) both)
