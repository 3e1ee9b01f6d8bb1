-- A variable with one live value, and one with two.
use Rattle.std.proofs.Common.{◌≡◌, ℕ, zero, suc, ◌+◌, ◌<◌, true, sym, ap, ◌∙◌, ⊎_elim, arith}
use Rattle.std.proofs.lemmas.Bool.{cases_eq, cases_lt, cond-true}
use Rattle.tasks.specs.Task.{Task}
use Rattle.reductions.specs.Steps.{live_values}

module _ (t : Task) (v : ℕ) where
  -- fewer live values lie below a live value than below a greater bound
  rank_below : (n x : ℕ) → x < n → t.val_live v x ≡ true → live_values t v x < live_values t v n
  rank_below zero x l live = absurd (omega arith)
  rank_below (suc n) x l live =
      ⊎_elim
      (λ (same : x ≡ n).
      let rank = ap (live_values t v) same in
      let more : live_values t v (suc n) ≡ 1 + live_values t v n = ap (λ k. k + live_values t v n) (cond-true (t.val_live v n) 1 0 (sym (ap (t.val_live v) same) ∙ live)) in
      omega arith)
      (λ apart. let h = rank_below n x (omega arith) live in omega arith)
      (cases_eq x n)

  -- so a live value is known by how many lie below it
  rank_same : (x y : ℕ) → t.val_live v x ≡ true → t.val_live v y ≡ true → live_values t v x ≡ live_values t v y → x ≡ y
  rank_same x y live-x live-y e =
      ⊎_elim
      (λ l. let h = rank_below y x l live-x in absurd (omega arith))
      (λ g. ⊎_elim (λ l. let h = rank_below x y l live-y in absurd (omega arith)) (λ k. omega arith) (cases_lt y x))
      (cases_lt x y)

  pub only_one : (n x y : ℕ) → live_values t v n ≡ 1 → x < n → y < n → t.val_live v x ≡ true → t.val_live v y ≡ true → x ≡ y
  only_one n x y one in-x in-y live-x live-y =
      let below-x = rank_below n x in-x live-x in
      let below-y = rank_below n y in-y live-y in
      rank_same x y live-x live-y (omega arith)

  pub only_other : (n x y z : ℕ) → live_values t v n ≡ 2 → x < n → y < n → z < n → t.val_live v x ≡ true → t.val_live v y ≡ true → t.val_live v z ≡ true → (x ≡ y → ⊥) → (z ≡ y → ⊥) → z ≡ x
  only_other n x y z two in-x in-y in-z live-x live-y live-z apart other =
      let below-x = rank_below n x in-x live-x in
      let below-y = rank_below n y in-y live-y in
      let below-z = rank_below n z in-z live-z in
      let x_y : live_values t v x ≡ live_values t v y → ⊥ = λ e. apart (rank_same x y live-x live-y e) in
      let z_y : live_values t v z ≡ live_values t v y → ⊥ = λ e. other (rank_same z y live-z live-y e) in
      rank_same z x live-z live-x (omega arith)
