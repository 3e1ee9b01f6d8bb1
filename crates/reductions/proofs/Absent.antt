-- Tests of options, and tests that are asked only where another passes, read as facts.
use Rattle.std.proofs.Common.{◌≡◌, ℕ, Bool, true, false, not, ◌||◌, Some, None, Option, sym, refl, ap}
use Rattle.std.proofs.lemmas.Bool.{false≢true, eqb-true, and_parts}
use Rattle.tasks.specs.Task.{Task}
use Rattle.detours.specs.Free.{absent, unmentioned}
use Rattle.reductions.specs.Steps.{same_value, has_value}

pub absent_none : (o : Option ℕ) → absent o ≡ true → o ≡ None
absent_none None e = refl
absent_none (Some x) e = absurd (false≢true e)

pub unmentioned_at : (t : Task) (a w : ℕ) → unmentioned t a w ≡ true → (t.pre a w ≡ None) × (t.eff a w ≡ None)
unmentioned_at t a w e =
    let both = and_parts (absent (t.pre a w)) (absent (t.eff a w)) e in
    (absent_none (t.pre a w) both.0, absent_none (t.eff a w) both.1)

pub has_value_at : (x : ℕ) (o : Option ℕ) → has_value x o ≡ true → o ≡ Some x
has_value_at x None e = absurd (false≢true e)
has_value_at x (Some y) e = ap Some (sym (eqb-true x y e))

pub same_value_at : (o q : Option ℕ) → same_value o q ≡ true → o ≡ q
same_value_at None None e = refl
same_value_at None (Some y) e = absurd (false≢true e)
same_value_at (Some x) None e = absurd (false≢true e)
same_value_at (Some x) (Some y) e = ap Some (eqb-true x y e)

-- b is asked only where a passes
pub implied_at : (a b : Bool) → (not a || b) ≡ true → a ≡ true → b ≡ true
implied_at true b h e = h
implied_at false b h e = absurd (false≢true e)

pub implied_from : (a b : Bool) → (a ≡ true → b ≡ true) → (not a || b) ≡ true
implied_from true b h = h refl
implied_from false b h = refl
