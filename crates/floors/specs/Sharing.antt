-- The neighbours of a cell are just the cells that share a side with it.
use Rattle.std.specs.Prelude.{◌≡◌, ℕ, zero, suc, ◌+◌, ◌-◌, ◌*◌, ◌/◌, ◌%◌, ◌<◌, ◌≤◌, Bool, true, cond, Some, None, nat_le, nat_lt}
use Rattle.std.proofs.Common.{sym, ap, ◌∙◌, inl, inr, ⊎_elim, add-mul, arith}
use Rattle.std.proofs.lemmas.Nat.{div-add-mod', div-mul-add, mod-mul-add, mod_below}
use Rattle.std.proofs.lemmas.Bool.{cond-true, leb-true, ltb-true, le-leb, lt-ltb}
use Rattle.floors.specs.declared.cells.Direction.{Direction}
use Rattle.floors.specs.declared.cells.Direction.TheVariants.{North, East, South, West}
use Rattle.tasks.specs.Optional.{chosen}
use Rattle.floors.specs.Floors.{Pool, cell_count, heading, neighbour_of}
use Rattle.floors.specs.FloorLaw.{ShareASide}

-- of a value that is named where a test passes
pub choose : (b : Bool) (y x : ℕ) → b ≡ true → y ≡ x → cond b (Some y) None ≡ Some x
choose b y x h e = cond-true b (Some y) None h ∙ ap Some e

-- row r and column k are those of cell n
record Place (w n r k : ℕ) : Type 0 where
  pub row : n / w ≡ r
  pub column : n % w ≡ k

placed : (w r k n : ℕ) → k < w → r * w + k ≡ n → Place w n r k
placed w r k n lt e = record { row = ap (λ m. m / w) (sym e) ∙ div-mul-add r w k lt; column = ap (λ m. m % w) (sym e) ∙ mod-mul-add r w k lt }

north : (w c r k : ℕ) → k < w → r * w + k ≡ c → w ≤ c → (n : ℕ) × (n + 1 ≡ r) × (n * w + k ≡ c - w)
north w c zero k lt e h = absurd (omega arith)
north w c (suc n) k lt e h = let m = add-mul n 1 w in (n, omega arith, omega arith)

module _ (p : Pool) (c d : ℕ) (some : 1 ≤ p.wide) where
  pub sharing : (to : Direction) → neighbour_of p c to ≡ Some d → ShareASide p c d
  sharing North h =
      let t = chosen (nat_le p.wide c) _ d h in
      let n = north p.wide c (c / p.wide) (c % p.wide) (mod_below c p.wide some) (div-add-mod' c p.wide) (leb-true p.wide c t.0) in
      let q = placed p.wide n.0 (c % p.wide) d (mod_below c p.wide some) (n.2 ∙ t.1) in
      inr (sym q.column, inr (omega arith))
  sharing East h =
      let t = chosen (nat_lt (c % p.wide + 1) p.wide) _ d h in
      let e = div-add-mod' c p.wide in
      let q = placed p.wide (c / p.wide) (c % p.wide + 1) d (ltb-true _ _ t.0) (omega arith) in
      inl (sym q.row, inl (sym q.column))
  sharing South h =
      let t = chosen (nat_lt (c + p.wide) (cell_count p)) _ d h in
      let e = div-add-mod' c p.wide in
      let m = add-mul (c / p.wide) 1 p.wide in
      let q = placed p.wide (c / p.wide + 1) (c % p.wide) d (mod_below c p.wide some) (omega arith) in
      inr (sym q.column, inl (sym q.row))
  sharing West h =
      let t = chosen (nat_lt 0 (c % p.wide)) _ d h in
      let e = div-add-mod' c p.wide in
      let l = mod_below c p.wide some in
      let z = ltb-true 0 (c % p.wide) t.0 in
      let q = placed p.wide (c / p.wide) (c % p.wide - 1) d (omega arith) (omega arith) in
      inl (sym q.row, inr (omega arith))

  pub shared : d < cell_count p → ShareASide p c d → (k : ℕ) × (k < 4) × (neighbour_of p c (heading k) ≡ Some d)
  shared below h =
      let e = div-add-mod' c p.wide in
      let f = div-add-mod' d p.wide in
      let l = mod_below d p.wide some in
      ⊎_elim
      (λ same. let m = ap (λ r. r * p.wide) same.0 in
      ⊎_elim
      (λ one. (1, omega arith, choose (nat_lt (c % p.wide + 1) p.wide) (c + 1) d (lt-ltb _ _ (omega arith)) (omega arith)))
      (λ one. (3, omega arith, choose (nat_lt 0 (c % p.wide)) (c - 1) d (lt-ltb _ _ (omega arith)) (omega arith)))
      same.1)
      (λ same.
      ⊎_elim
      (λ one. let m = add-mul (c / p.wide) 1 p.wide in let n = ap (λ r. r * p.wide) one in
      (2, omega arith, choose (nat_lt (c + p.wide) (cell_count p)) (c + p.wide) d (lt-ltb _ _ (omega arith)) (omega arith)))
      (λ one. let m = add-mul (d / p.wide) 1 p.wide in let n = ap (λ r. r * p.wide) one in
      (0, omega arith, choose (nat_le p.wide c) (c - p.wide) d (le-leb _ _ (omega arith)) (omega arith)))
      same.1)
      h
