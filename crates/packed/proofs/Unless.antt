-- What a check of one part answered, read back.
use Rattle.std.proofs.Common.{◌≡◌, ℕ, ◌+◌, ◌<◌, Some, None, Ok, Err, Option, Result, sym, refl, ap, ◌∙◌, arith}
use Rattle.tasks.specs.declared.refusal.Refusal.{Refusal}
use Rattle.tasks.specs.Bounds.{first_some}
use Rattle.packed.specs.Checks.{unless}
use Rattle.tasks.proofs.Firsts.{none_more, some_at}

pub passed : {A : Type 0} (o : Option Refusal) (x y : A) → Ok y ≡ unless o x → o ≡ None
passed None x y e = refl
passed (Some d) x y e = let z : ◌≡◌ {A = ℕ} 0 1 = cc in absurd (omega arith)

pub answer : {A : Type 0} (o : Option Refusal) (x y : A) → Ok y ≡ unless o x → y ≡ x
answer None x y e = cc
answer (Some d) x y e = let z : ◌≡◌ {A = ℕ} 0 1 = cc in absurd (omega arith)

pub stopped : {A : Type 0} (o : Option Refusal) (x : A) (d : Refusal) → Err d ≡ unless o x → o ≡ Some d
stopped None x d e = let z : ◌≡◌ {A = ℕ} 0 1 = cc in absurd (omega arith)
stopped (Some c) x d e = cc

-- the exit of a `?` answers the refusal of the part, which is that of the whole
pub exits : {A : Type 0} (whole : Option Refusal) (x : A) (r : Result A Refusal) (d : Refusal) → whole ≡ Some d → (y : Refusal) × (r ≡ Err y) × (y ≡ d) → r ≡ unless whole x
exits {A} whole x r d e h = h.1 ∙ ap (λ (y : Refusal). Err y) h.2 ∙ sym (ap (λ (o : Option Refusal). unless {A = A} o x) e)

-- The pass over parts 0, 1 .. below a count, at part k: those before it are accepted.
module _ (wrong : ℕ → Option Refusal) (count k : ℕ) (so_far : first_some k wrong ≡ None) where
  pub goes_on : (x : Unit {0}) → Ok x ≡ unless (wrong k) tt → first_some (k + 1) wrong ≡ None
  goes_on x e = none_more k wrong so_far (passed (wrong k) tt x e)

  pub stops : (r : Result (Unit {0}) Refusal) (d : Refusal) → k < count → Err d ≡ unless {A = Unit {0}} (wrong k) (tt {0}) → (y : Refusal) × (r ≡ Err y) × (y ≡ d) → r ≡ unless {A = Unit {0}} (first_some count wrong) (tt {0})
  stops r d l e h = exits (first_some count wrong) (tt {0}) r d (some_at count k wrong d l so_far (stopped (wrong k) tt d e)) h
