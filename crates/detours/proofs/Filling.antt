-- A list that a closure filled, which gives one value at every call.
use Rattle.std.proofs.Common.{◌≡◌, List, [], ◌∷◌, length, replicate, refl, ap₂}
use Rattle.std.specs.List.{FoldsTo}

pub filled_with : {P X : Type 0} (R : P → X → P → Type 0) (v : X) → ((p : P) (x : X) (q : P) → R p x q → x ≡ v) → (p : P) (xs : List X) (q : P) → FoldsTo R p xs q → xs ≡ replicate (length xs) v
filled_with R v same p [] q h = refl
filled_with {X = X} R v same p (x ∷ xs) q (j, first, rest) = ap₂ (λ (y : X) (ys : List X). y ∷ ys) (same p x j first) (filled_with R v same j xs q rest)
