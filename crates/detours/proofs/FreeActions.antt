-- What a free action mentions.
use Rattle.std.proofs.Common.{◌≡◌, ℕ, true, not, ◌&&◌, ◌||◌, eqb, Some, None, Option, refl, ⊎_elim}
use Rattle.std.proofs.lemmas.Bool.{false≢true, eqb-true, and_parts, or_cases, cases_lt}
use Rattle.tasks.specs.Bounds.{all_below}
use Rattle.tasks.specs.Task.{Task, Lawful}
use Rattle.tasks.proofs.Bounded.{below_at}
use Rattle.tasks.proofs.Lawful.{pre_past, eff_past}
use Rattle.detours.specs.Free.{absent, unmentioned, is_free}

-- a is live, sets v and names no other variable
pub record Free (t : Task) (v a : ℕ) : Type 0 where
  pub live : t.act_live a ≡ true
  pub sets : (w : ℕ) × (t.eff a v ≡ Some w)
  pub alone : (w : ℕ) → (w ≡ v → ⊥) → (t.pre a w ≡ None) × (t.eff a w ≡ None)

absent_none : (o : Option ℕ) → absent o ≡ true → o ≡ None
absent_none None e = refl
absent_none (Some x) e = absurd (false≢true e)

present_some : (o : Option ℕ) → not (absent o) ≡ true → (x : ℕ) × (o ≡ Some x)
present_some None e = absurd (false≢true e)
present_some (Some x) e = (x, refl)

pub free_at : (t : Task) → Lawful t → (v a : ℕ) → is_free t v a ≡ true → Free t v a
free_at t law v a h =
    record { live = first.0; sets = present_some (t.eff a v) first.1; alone = alone }
  where
    parts : ((t.act_live a && not (absent (t.eff a v))) ≡ true) × (all_below t.vars (λ w. eqb w v || unmentioned t a w) ≡ true)
    parts = and_parts (t.act_live a && not (absent (t.eff a v))) (all_below t.vars (λ w. eqb w v || unmentioned t a w)) h

    first : (t.act_live a ≡ true) × (not (absent (t.eff a v)) ≡ true)
    first = and_parts (t.act_live a) (not (absent (t.eff a v))) parts.0

    unnamed : (w : ℕ) → unmentioned t a w ≡ true → (t.pre a w ≡ None) × (t.eff a w ≡ None)
    unnamed w e = let both = and_parts (absent (t.pre a w)) (absent (t.eff a w)) e in (absent_none (t.pre a w) both.0, absent_none (t.eff a w) both.1)

    alone : (w : ℕ) → (w ≡ v → ⊥) → (t.pre a w ≡ None) × (t.eff a w ≡ None)
    alone w apart =
        ⊎_elim
        (λ l. ⊎_elim (λ e. absurd (apart (eqb-true w v e))) (unnamed w) (or_cases (eqb w v) (unmentioned t a w) (below_at t.vars (λ k. eqb k v || unmentioned t a k) parts.1 w l)))
        (λ l. (pre_past t law a w l, eff_past t law a w l))
        (cases_lt w t.vars)
