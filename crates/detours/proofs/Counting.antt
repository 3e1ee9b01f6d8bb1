-- How many numbers below a bound pass a test.
use Rattle.std.proofs.Common.{◌≡◌, ℕ, zero, suc, ◌+◌, ◌<◌, ◌≤◌, Bool, true, false, refl, ap, ◌∙◌, ⊎_elim, arith}
use Rattle.std.proofs.lemmas.Bool.{cases_eq}

abbrev one_if : Bool → ℕ
one_if true = 1
one_if false = 0

pub count : (ℕ → Bool) → ℕ → ℕ
count p zero = 0
count p (suc n) = one_if (p n) + count p n

pub count_most : (p : ℕ → Bool) (n : ℕ) → count p n ≤ n
unfolding count
count_most p zero = omega arith
count_most p (suc n) = go (p n) (count_most p n)
  where
    go : (b : Bool) → count p n ≤ n → one_if b + count p n ≤ suc n
    go true h = omega arith
    go false h = omega arith

pub count_same : (p q : ℕ → Bool) (n : ℕ) → ((i : ℕ) → i < n → q i ≡ p i) → count q n ≡ count p n
unfolding count
count_same p q zero h = refl
count_same p q (suc n) h =
    let last = ap one_if (h n (omega arith)) in
    let rest = count_same p q n (λ i l. h i (omega arith)) in
    omega arith

-- one number more passes
pub count_more : (p q : ℕ → Bool) (u n : ℕ) → u < n → p u ≡ false → q u ≡ true → ((i : ℕ) → (i ≡ u → ⊥) → q i ≡ p i) → count q n ≡ suc (count p n)
unfolding count
count_more p q u zero l a b h = absurd (omega arith)
count_more p q u (suc n) l a b h =
    ⊎_elim
    (λ same.
    let was = ap (λ i. one_if (p i)) same ∙ ap one_if a in
    let now = ap (λ i. one_if (q i)) same ∙ ap one_if b in
    let rest = count_same p q n (λ i k. h i (λ e. omega arith)) in
    omega arith)
    (λ apart.
    let last = ap one_if (h n apart) in
    let rest = count_more p q u n (omega arith) a b h in
    omega arith)
    (cases_eq n u)

pub count_all : (p : ℕ → Bool) (n : ℕ) → n ≤ count p n → (i : ℕ) → i < n → p i ≡ true
unfolding count
count_all p zero h i l = absurd (omega arith)
count_all p (suc n) h i l = go (p n) refl (count_all p n)
  where
    go : (b : Bool) → p n ≡ b → (n ≤ count p n → (i : ℕ) → i < n → p i ≡ true) → p i ≡ true
    go true e rest =
        let last = ap one_if e in
        ⊎_elim (λ same. ap p same ∙ e) (λ apart. rest (omega arith) i (omega arith)) (cases_eq i n)
    go false e rest = let last = ap one_if e in let most = count_most p n in absurd (omega arith)
