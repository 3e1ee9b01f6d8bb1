-- Tests and answers over the numbers below a bound.
use Rattle.std.specs.Prelude.{ℕ, zero, suc, ◌+◌, Bool, true, cond, ◌&&◌, Some, None, Option}

-- a test of every number below n
abbrev pub all_below : ℕ → (ℕ → Bool) → Bool
all_below zero p = true
all_below (suc n) p = all_below n p && p n

-- how many numbers below n pass a test
abbrev pub count_below : ℕ → (ℕ → Bool) → ℕ
count_below zero p = 0
count_below (suc n) p = cond (p n) 1 0 + count_below n p

-- the first of f 0, f 1, .. below f n that is there
abbrev pub first_some : {A : Type 0} → ℕ → (ℕ → Option A) → Option A
first_some zero f = None
first_some (suc n) f = elim (first_some n f) [ Some x ↦ Some x | None ↦ f n ]

-- the lowest number below n that fails the test
abbrev pub first_failing : ℕ → (ℕ → Bool) → Option ℕ
first_failing n p = first_some n (λ k. cond (p k) None (Some k))
