-- Tests of every number below a bound, read as facts.
use Rattle.std.proofs.Common.{◌≡◌, ℕ, zero, suc, ◌+◌, ◌<◌, Bool, true, false, cond, Some, None, Option, sym, refl, ◌∙◌, subst, ⊎_elim, add-one, arith}
use Rattle.std.proofs.lemmas.Bool.{and_parts, and_from, and_left, and_right, cases_eq, cases_Bool, cond-true, cond-false}
use Rattle.tasks.specs.Bounds.{all_below, first_failing}
use Rattle.tasks.proofs.Firsts.{none_at, none_from, none_more, some_at}

pub below_at : (n : ℕ) (p : ℕ → Bool) → all_below n p ≡ true → (v : ℕ) → v < n → p v ≡ true
below_at zero p h v l = absurd (omega arith)
below_at (suc n) p h v l =
    let both = and_parts (all_below n p) (p n) h in
    ⊎_elim (λ same. subst (λ (k : ℕ). p k ≡ true) (sym same) both.1) (λ apart. below_at n p both.0 v (omega arith)) (cases_eq v n)

pub below_from : (n : ℕ) (p : ℕ → Bool) → ((v : ℕ) → v < n → p v ≡ true) → all_below n p ≡ true
below_from zero p h = refl
below_from (suc n) p h = and_from (all_below n p) (p n) (below_from n p (λ v l. h v (omega arith))) (h n (omega arith))

pub below_fails : (n : ℕ) (p : ℕ → Bool) (v : ℕ) → v < n → p v ≡ false → all_below n p ≡ false
below_fails zero p v l e = absurd (omega arith)
below_fails (suc n) p v l e =
    ⊎_elim
    (λ same. and_right (all_below n p) (p n) (subst (λ (k : ℕ). p k ≡ false) same e))
    (λ apart. and_left (all_below n p) (p n) (below_fails n p v (omega arith) e))
    (cases_eq v n)

-- one number more, as a loop counts
pub below_more : (n : ℕ) (p : ℕ → Bool) → all_below n p ≡ true → p n ≡ true → all_below (n + 1) p ≡ true
below_more n p h e = subst (λ (k : ℕ). all_below k p ≡ true) (sym (add-one n)) (and_from (all_below n p) (p n) h e)

-- the lowest number that fails, as a loop finds it
module _ (p : ℕ → Bool) where
  found : ℕ → Option ℕ
  found k = cond (p k) None (Some k)

  pub passing_more : (n : ℕ) → first_failing n p ≡ None → p n ≡ true → first_failing (n + 1) p ≡ None
  unfolding found
  passing_more n h e = none_more n found h (cond-true (p n) None (Some n) e)

  pub fails_at : (n k : ℕ) → k < n → first_failing k p ≡ None → p k ≡ false → first_failing n p ≡ Some k
  unfolding found
  fails_at n k l h e = some_at n k found k l h (cond-false (p k) None (Some k) e)

  -- none fails exactly when the test of all passes
  pub passing_from : (n : ℕ) → all_below n p ≡ true → first_failing n p ≡ None
  unfolding found
  passing_from n h = none_from n found (λ k l. cond-true (p k) None (Some k) (below_at n p h k l))

  pub passing_at : (n : ℕ) → first_failing n p ≡ None → (k : ℕ) → k < n → p k ≡ true
  unfolding found
  passing_at n h k l = ⊎_elim (λ e. e) (λ e. never (sym (cond-false (p k) None (Some k) e) ∙ none_at n found h k l)) (cases_Bool (p k))
    where
      never : {A : Type 0} → ◌≡◌ {A = Option ℕ} (Some k) None → A
      never e = let z : ◌≡◌ {A = ℕ} 0 1 = cc in absurd (omega arith)
