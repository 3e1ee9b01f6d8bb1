-- A sum that stops at a largest total, over every number: it is associative.
use Rattle.std.specs.Prelude.{◌≡◌, ℕ, ◌+◌, ◌≤◌, min, max}
use Rattle.std.proofs.Common.{sym, ap, ◌∙◌, ⊎_elim, arith}
use Rattle.std.proofs.lemmas.Bool.{cases_lt}

abbrev pub saturating : ℕ → ℕ → ℕ → ℕ
saturating top x y = max (max x y) (min (x + y) top)

low : (top x y : ℕ) → x + y ≤ top → saturating top x y ≡ x + y
low top x y h = omega arith

high : (top x y : ℕ) → top ≤ x + y → saturating top x y ≡ max (max x y) top
high top x y h = omega arith

module _ (top x y z : ℕ) where
  -- where the sum passes the top, both sides are the greatest of the three and the top
  left_high : top ≤ x + y + z → saturating top (saturating top x y) z ≡ max (max (max x y) z) top
  left_high h =
      ⊎_elim
      (λ l. ap (λ n. saturating top n z) (low top x y (omega arith)) ∙ high top (x + y) z h ∙ omega arith)
      (λ l. ap (λ n. saturating top n z) (high top x y l) ∙ high top (max (max x y) top) z (omega arith) ∙ omega arith)
      (cases_lt (x + y) top)

  right_high : top ≤ x + y + z → saturating top x (saturating top y z) ≡ max (max (max x y) z) top
  right_high h =
      ⊎_elim
      (λ l. ap (saturating top x) (low top y z (omega arith)) ∙ high top x (y + z) (omega arith) ∙ omega arith)
      (λ l. ap (saturating top x) (high top y z l) ∙ high top x (max (max y z) top) (omega arith) ∙ omega arith)
      (cases_lt (y + z) top)

  pub saturating_assoc : saturating top (saturating top x y) z ≡ saturating top x (saturating top y z)
  saturating_assoc =
      ⊎_elim
      (λ l. ap (λ n. saturating top n z) (low top x y (omega arith)) ∙ low top (x + y) z (omega arith) ∙ sym (ap (saturating top x) (low top y z (omega arith)) ∙ low top x (y + z) (omega arith) ∙ omega arith))
      (λ h. left_high h ∙ sym (right_high h))
      (cases_lt (x + y + z) top)
