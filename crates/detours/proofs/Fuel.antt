-- As many turns as a variable has values at most.
use Rattle.std.proofs.Common.{◌≡◌, ℕ, ◌-◌, ◌≤◌, refl, ap, arith}
use Rattle.detours.specs.Detours.{most_values}

pub turns_are : most_values ≡ 64
unfolding most_values
turns_are = refl

-- before the first turn, and after the last
pub turns_first : {A : Type 0} (F : ℕ → A) → F (most_values - 0) ≡ F most_values
turns_first F = let e : most_values - 0 ≡ most_values = omega arith in ap F e

pub turns_last : {A : Type 0} (F : ℕ → A) (turn : ℕ) → 64 ≤ turn → F (most_values - turn) ≡ F 0
turns_last F turn l = let e : most_values - turn ≡ 0 = omega (arith, turns_are) in ap F e
