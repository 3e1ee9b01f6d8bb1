use Rattle.std.specs.Prelude.{◌≡◌, ℕ, ◌<◌, true, cond, ◌&&◌, Some, None, ◌==◌, nat_lt}
use Rattle.std.proofs.Common.{arith}
use Rattle.std.proofs.lemmas.Bool.{and_parts, and_from, eqb-true, ltb-true, lt-ltb}
use Rattle.tasks.specs.Optional.{chosen}

-- what an action asks for or sets is a value of its own switch
pub named : (n a v c x : ℕ) → c < 2 → cond (nat_lt a n && a == v) (Some c) None ≡ Some x → (nat_lt a n ≡ true) × ((nat_lt v n && nat_lt x 2) ≡ true)
named n a v c x low h =
    let w = chosen (nat_lt a n && a == v) c x h in
    let p = and_parts (nat_lt a n) (a == v) w.0 in
    (p.0, and_from _ _ (lt-ltb v n (omega (arith, ltb-true a n p.0, eqb-true a v p.1))) (lt-ltb x 2 (omega (arith, w.1))))
