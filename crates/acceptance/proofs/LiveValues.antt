-- Counting live values, as a loop does it.
use Rattle.std.proofs.Common.{◌≡◌, ℕ, ◌+◌, Bool, true, false, cond, ap, ◌∙◌, add-one, arith}
use Rattle.tasks.specs.Task.{Task}
use Rattle.reductions.specs.Steps.{live_values}

module _ (t : Task) (v n count : ℕ) (so_far : count ≡ live_values t v n) where
  one_more : (b : Bool) → t.val_live v n ≡ b → live_values t v (n + 1) ≡ cond b 1 0 + live_values t v n
  one_more b e = ap (live_values t v) (add-one n) ∙ ap (λ (k : Bool). cond k 1 0 + live_values t v n) e

  pub counted : t.val_live v n ≡ true → count + 1 ≡ live_values t v (n + 1)
  counted e = let more = one_more true e in omega arith

  pub not_counted : t.val_live v n ≡ false → count ≡ live_values t v (n + 1)
  not_counted e = let more = one_more false e in omega arith
