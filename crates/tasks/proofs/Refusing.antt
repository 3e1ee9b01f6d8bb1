-- A chain of tests, each of which refuses where it is true.
use Rattle.std.proofs.Common.{◌≡◌, ℕ, Bool, true, false, cond, Some, None, Option, refl, ◌∙◌, arith}
use Rattle.std.proofs.lemmas.Bool.{cond-false}
use Rattle.tasks.specs.declared.refusal.Refusal.{Refusal}

-- what is left where the first test does not refuse
pub pass : (b : Bool) (e : Refusal) (rest : Option Refusal) → cond b (Some e) rest ≡ None → (b ≡ false) × (rest ≡ None)
pass true e rest h = let z : ◌≡◌ {A = ℕ} 0 1 = cc in absurd (omega arith)
pass false e rest h = (refl, h)

pub pass_from : (b : Bool) (e : Refusal) (rest : Option Refusal) → b ≡ false → rest ≡ None → cond b (Some e) rest ≡ None
pass_from b e rest h k = cond-false b (Some e) rest h ∙ k
