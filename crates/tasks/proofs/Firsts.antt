-- The first of several answers that is there.
use Rattle.std.proofs.Common.{◌≡◌, ℕ, zero, suc, ◌+◌, ◌<◌, Some, None, Option, sym, refl, ap, ◌∙◌, subst, ⊎_elim, add-one, arith}
use Rattle.std.proofs.lemmas.Bool.{cases_eq}
use Rattle.tasks.specs.Bounds.{first_some}

-- one answer, or else another
abbrev pub or_else : {A : Type 0} → Option A → Option A → Option A
or_else o p = elim o [ Some x ↦ Some x | None ↦ p ]

pub or_none : {A : Type 0} (o p : Option A) → or_else o p ≡ None → (o ≡ None) × (p ≡ None)
or_none None p e = (refl, e)
or_none (Some x) p e = let z : ◌≡◌ {A = ℕ} 0 1 = cc in absurd (omega arith)

pub or_skip : {A : Type 0} (o p : Option A) → o ≡ None → or_else o p ≡ p
or_skip {A} o p e = ap (λ (q : Option A). or_else q p) e

pub or_stop : {A : Type 0} (o p : Option A) (x : A) → o ≡ Some x → or_else o p ≡ Some x
or_stop {A} o p x e = ap (λ (q : Option A). or_else q p) e

pub none_at : {A : Type 0} (n : ℕ) (f : ℕ → Option A) → first_some n f ≡ None → (k : ℕ) → k < n → f k ≡ None
none_at zero f h k l = absurd (omega arith)
none_at (suc n) f h k l =
    let both = or_none (first_some n f) (f n) h in
    ⊎_elim (λ same. subst (λ (j : ℕ). f j ≡ None) (sym same) both.1) (λ apart. none_at n f both.0 k (omega arith)) (cases_eq k n)

pub none_from : {A : Type 0} (n : ℕ) (f : ℕ → Option A) → ((k : ℕ) → k < n → f k ≡ None) → first_some n f ≡ None
none_from zero f h = refl
none_from (suc n) f h = or_skip (first_some n f) (f n) (none_from n f (λ k l. h k (omega arith))) ∙ h n (omega arith)

-- one more, as a loop counts
pub none_more : {A : Type 0} (n : ℕ) (f : ℕ → Option A) → first_some n f ≡ None → f n ≡ None → first_some (n + 1) f ≡ None
none_more n f h e = ap (λ (k : ℕ). first_some k f) (add-one n) ∙ or_skip (first_some n f) (f n) h ∙ e

-- what is found at k is what is found at all
pub some_at : {A : Type 0} (n k : ℕ) (f : ℕ → Option A) (x : A) → k < n → first_some k f ≡ None → f k ≡ Some x → first_some n f ≡ Some x
some_at zero k f x l h e = absurd (omega arith)
some_at (suc n) k f x l h e =
    ⊎_elim
    (λ same. or_skip (first_some n f) (f n) (subst (λ (j : ℕ). first_some j f ≡ None) same h) ∙ subst (λ (j : ℕ). f j ≡ Some x) same e)
    (λ apart. or_stop (first_some n f) (f n) x (some_at n k f x (omega arith) h e))
    (cases_eq k n)

pub some_found : {A : Type 0} (n : ℕ) (f : ℕ → Option A) (x : A) → first_some n f ≡ Some x → (k : ℕ) × (k < n) × (f k ≡ Some x)
some_found zero f x h = let z : ◌≡◌ {A = ℕ} 0 1 = cc in absurd (omega arith)
some_found {A} (suc n) f x h = go (first_some n f) h (some_found n f x)
  where
    go : (o : Option A) → or_else o (f n) ≡ Some x → (o ≡ Some x → (k : ℕ) × (k < n) × (f k ≡ Some x)) → (k : ℕ) × (k < suc n) × (f k ≡ Some x)
    go None e more = (n, omega arith, e)
    go (Some y) e more = let r = more e in (r.0, omega (arith, r.1), r.2)
