-- Options, read as facts.
use Rattle.std.specs.Prelude.{◌≡◌, ℕ, Bool, true, false, cond, ◌⊎◌, Some, None, Option, refl}
use Rattle.std.proofs.Common.{inl, inr, arith}

pub some_or_none : (o : Option ℕ) → ((x : ℕ) × (o ≡ Some x)) ⊎ (o ≡ None)
some_or_none None = inr refl
some_or_none (Some x) = inl (x, refl)

pub none_some : {A : Type 0} (o : Option ℕ) (x : ℕ) → o ≡ None → o ≡ Some x → A
none_some o x p q = let z : ◌≡◌ {A = ℕ} 0 1 = cc in absurd (omega arith)

pub some_inj : (x y : ℕ) → ◌≡◌ {A = Option ℕ} (Some x) (Some y) → x ≡ y
some_inj x y e = cc

-- what is there only if a test passes
pub guard_some : (b : Bool) (o : Option ℕ) (x : ℕ) → cond b o None ≡ Some x → (b ≡ true) × (o ≡ Some x)
guard_some true o x e = (refl, e)
guard_some false o x e = none_some None x refl e

pub chosen : (b : Bool) (c x : ℕ) → cond b (Some c) None ≡ Some x → (b ≡ true) × (c ≡ x)
chosen b c x e = let both = guard_some b (Some c) x e in (both.0, some_inj c x both.1)
