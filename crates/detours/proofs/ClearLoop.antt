-- Filling a list with one value, as a loop does it.
use Rattle.std.proofs.Common.{◌≡◌, ℕ, zero, suc, ◌+◌, ◌<◌, ◌≤◌, List, [], ◌∷◌, ◌++◌, length, drop, set, replicate, sym, refl, ap, ◌∙◌, ap₂, add-one, arith}
use Rattle.std.proofs.lemmas.List.{append-nil, drop_all}

module _ {X : Type 0} (v : X) where
  filled_one : (n : ℕ) (d : List X) → n < length d → set (replicate n v ++ drop n d) n v ≡ replicate (suc n) v ++ drop (suc n) d
  filled_one n [] l = absurd (omega arith)
  filled_one zero (x ∷ d) l = refl
  filled_one (suc n) (x ∷ d) l = ap (λ (xs : List X). v ∷ xs) (filled_one n d (omega arith))

  pub filled_more : (n : ℕ) (d xs : List X) (y : X) → n < length d → xs ≡ replicate n v ++ drop n d → y ≡ v → set xs n y ≡ replicate (n + 1) v ++ drop (n + 1) d
  filled_more n d xs y l is e = ap₂ (λ (zs : List X) (z : X). set zs n z) is e ∙ filled_one n d l ∙ sym (ap (λ (k : ℕ). replicate k v ++ drop k d) (add-one n))

  pub filled_all : (n : ℕ) (d xs : List X) → n ≤ length d → length d ≤ n → xs ≡ replicate n v ++ drop n d → xs ≡ replicate (length d) v
  filled_all n d xs m l is =
      let same : n ≡ length d = omega arith in
      is ∙ ap₂ (λ (ys zs : List X). ys ++ zs) (ap (λ (k : ℕ). replicate k v) same) (drop_all n d l) ∙ append-nil (replicate (length d) v)
