-- The total of a label, which may be missing: where it is within a bound, and where another one improves it.
use Rattle.std.proofs.Common.{◌≡◌, ℕ, true, false, Some, None, Option, refl, subst, arith}
use Rattle.std.proofs.lemmas.Bool.{true≢false, not-true, not-false}
use Rattle.tasks.specs.Measures.{CostAlgebra, CostLaws}
use Rattle.tasks.proofs.CostAlgebras.{at_most_same, at_most_other}
use Rattle.detours.specs.Detours.{improves}

pub same_sum : {S : Type 0} (o : Option S) (x y : S) → o ≡ Some x → o ≡ Some y → x ≡ y
same_sum o x y p q = cc

pub no_sum : {S A : Type 0} (o : Option S) (x : S) → o ≡ None → o ≡ Some x → A
no_sum o x p q = let z : ◌≡◌ {A = ℕ} 0 1 = cc in absurd (omega arith)

-- there is a total, and it is at most x
abbrev pub Within : {S : Type 0} → CostAlgebra S → Option S → S → Type 0
Within {S} m o x = (y : S) × (o ≡ Some y) × (m.at_most y x ≡ true)

module _ {S : Type 0} (m : CostAlgebra S) (laws : CostLaws m) where
  pub within_more : (o : Option S) (x y : S) → Within m o x → m.at_most x y ≡ true → Within m o y
  within_more o x y h l = (h.0, h.1, laws.trans h.0 x y h.2 l)

  pub within_at : (o : Option S) (x y : S) → Within m o x → o ≡ Some y → m.at_most y x ≡ true
  within_at o x y h e = subst (λ z. m.at_most z x ≡ true) (same_sum o h.0 y h.1 e) h.2

  pub within_same : (o : Option S) (x y : S) → o ≡ Some x → o ≡ Some y → m.at_most x y ≡ true
  within_same o x y p q = subst (λ z. m.at_most x z ≡ true) (same_sum o x y p q) (at_most_same m laws x)

  -- what improves a total is at most it
  pub improves_within : (x y : S) (o : Option S) → improves m x o ≡ true → Within m o y → m.at_most x y ≡ true
  improves_within x y None b h = no_sum None h.0 refl h.1
  improves_within x y (Some z) b h = laws.trans x z y (at_most_other m laws z x (not-true (m.at_most z x) b)) (within_at (Some z) y z h refl)

  pub not_improves_within : (x : S) (o : Option S) → improves m x o ≡ false → Within m o x
  not_improves_within x None b = absurd (true≢false b)
  not_improves_within x (Some z) b = (z, refl, not-false (m.at_most z x) b)
