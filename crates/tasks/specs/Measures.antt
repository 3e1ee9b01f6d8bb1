-- How totals are measured: a cost algebra, and its laws.
use Rattle.std.specs.Prelude.{◌≡◌, ℕ, ◌+◌, min, max, Bool, true, ◌⊎◌, nat_le}

-- S is the kind of total. It is a parameter and no field, so that a cost algebra is a value of `Type 0`, which a clause can speak of.
pub record CostAlgebra (S : Type 0) : Type 0 where
  pub nothing : S
  -- the total of one action, from its price
  pub weight : ℕ → S
  pub join : S → S → S
  pub at_most : S → S → Bool

pub record CostLaws {S : Type 0} (m : CostAlgebra S) : Type 0 where
  pub assoc : (x y z : S) → m.join (m.join x y) z ≡ m.join x (m.join y z)
  pub comm : (x y : S) → m.join x y ≡ m.join y x
  pub neutral : (x : S) → m.join m.nothing x ≡ x
  pub either : (x y : S) → (m.at_most x y ≡ true) ⊎ (m.at_most y x ≡ true)
  pub trans : (x y z : S) → m.at_most x y ≡ true → m.at_most y z ≡ true → m.at_most x z ≡ true
  pub antisym : (x y : S) → m.at_most x y ≡ true → m.at_most y x ≡ true → x ≡ y
  pub least : (x : S) → m.at_most m.nothing x ≡ true
  pub retains : (x y z : S) → m.at_most x y ≡ true → m.at_most (m.join x z) (m.join y z) ≡ true

-- Charge adds and stops at the largest total. The greater of the two changes nothing of totals that fit 32 bits; with it the laws hold of every number.
abbrev pub charge : CostAlgebra ℕ
charge = record { nothing = 0; weight = λ p. p; join = λ x y. max (max x y) (min (x + y) 4294967295); at_most = nat_le }

-- Depth takes the greater.
abbrev pub depth : CostAlgebra ℕ
depth = record { nothing = 0; weight = λ p. p; join = max; at_most = nat_le }
