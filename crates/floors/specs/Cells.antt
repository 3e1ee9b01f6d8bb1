-- The sides of a floor, its cells, and which of them are open.
use Rattle.std.specs.Prelude.{◌≡◌, ℕ, suc, ◌+◌, ◌/◌, ◌%◌, ◌^◌, ◌<◌, ◌≤◌, ◌==◌, bit_and, nat_eq, true, false, Bool, cond, not, ◌&&◌, List, ◌∷◌, length, Some, None, nat_le, nat_lt, slice_index, refl}
use Rattle.std.proofs.Common.{sym, ap, subst, ◌∙◌, add-one, arith}
use Rattle.std.proofs.lemmas.Nat.{and_mask, mul-le}
use Rattle.std.proofs.lemmas.Bool.{and_parts, leb-true, ltb-true, lt-ltb, ltb-false, not-true, not-false, cond_both}
use Rattle.std.proofs.lemmas.List.Sums.{fails_before_first, passes_at_first}
use Rattle.std.specs.List.{position_or_len}
use Rattle.tasks.specs.Bounds.{first_failing}
use Rattle.tasks.proofs.Bounded.{below_from, passing_more, passing_from, fails_at}
use Rattle.floors.specs.Floors.{Pool, cell_count, open_cell, sides_fit, place_cell, closed_place}

pub record Sides (p : Pool) : Type 0 where
  pub some_wide : 1 ≤ p.wide
  pub few_wide : p.wide ≤ 8
  pub some_high : 1 ≤ p.high
  pub few_high : p.high ≤ 8
  pub some_cells : 1 ≤ cell_count p
  pub few_cells : cell_count p ≤ 64

pub sides_known : (p : Pool) → sides_fit p ≡ true → Sides p
sides_known p h =
    let a = and_parts (nat_le 1 p.wide && nat_le p.wide 8 && nat_le 1 p.high) (nat_le p.high 8) h in
    let b = and_parts (nat_le 1 p.wide && nat_le p.wide 8) (nat_le 1 p.high) a.0 in
    let d = and_parts (nat_le 1 p.wide) (nat_le p.wide 8) b.0 in
    let w = leb-true 1 p.wide d.0 in
    let w8 = leb-true p.wide 8 d.1 in
    let t = leb-true 1 p.high b.1 in
    let t8 = leb-true p.high 8 a.1 in
    record { some_wide = w; few_wide = w8; some_high = t; few_high = t8; some_cells = mul-le 1 1 p.wide p.high w t; few_cells = mul-le p.wide p.high 8 8 w8 t8 }

-- a cell of the floor is open if its bit, as the code tests it, is 0
pub open_by_bit : (p : Pool) (c : ℕ) → c < cell_count p → (bit_and (p.blocked / 2 ^ c) 1 == 0) ≡ open_cell p c
open_by_bit p c h =
    ap (λ m. nat_eq m 0) (and_mask (p.blocked / 2 ^ c) 1) ∙ sym (ap (λ b. b && p.blocked / 2 ^ c % 2 == 0) (lt-ltb c (cell_count p) h))

pub open_within : (p : Pool) (c : ℕ) → open_cell p c ≡ true → c < cell_count p
open_within p c h = ltb-true c (cell_count p) (and_parts (nat_lt c (cell_count p)) _ h).0

-- Point i + 1, as it is read of a list ys of the points, where the start and the points before it are open.
module _ (p : Pool) (ys : List ℕ) (i : ℕ) (same : ys ≡ p.points) where
  at_point : place_cell p (i + 1) ≡ slice_index ys i
  at_point = ap (place_cell p) (add-one i) ∙ ap (λ zs. slice_index zs i) (sym same)

  pub closed_more : first_failing (i + 1) (λ k. open_cell p (place_cell p k)) ≡ None → true ≡ open_cell p (slice_index ys i) → first_failing (i + 1 + 1) (λ k. open_cell p (place_cell p k)) ≡ None
  closed_more h unblocked = passing_more (λ k. open_cell p (place_cell p k)) (i + 1) h (ap (open_cell p) at_point ∙ sym unblocked)

  pub closed_found : i < length ys → first_failing (i + 1) (λ k. open_cell p (place_cell p k)) ≡ None → false ≡ open_cell p (slice_index ys i) → Some (i + 1) ≡ closed_place p
  closed_found lt h shut =
      sym (fails_at (λ k. open_cell p (place_cell p k)) (suc (length p.points)) (i + 1) (omega (arith, ap length same)) h (ap (open_cell p) at_point ∙ sym shut))

  pub closed_none : length ys ≤ i → i ≤ length ys → first_failing (i + 1) (λ k. open_cell p (place_cell p k)) ≡ None → None ≡ closed_place p
  closed_none past within h =
      let all : i + 1 ≡ suc (length p.points) = omega (arith, ap length same) in
      sym (subst (λ n. first_failing n (λ k. open_cell p (place_cell p k)) ≡ None) all h)

-- the start is place 0
pub start_closed : (p : Pool) → open_cell p p.start ≡ false → Some 0 ≡ closed_place p
start_closed p shut = sym (fails_at (λ k. open_cell p (place_cell p k)) (suc (length p.points)) 0 (omega arith) refl shut)

pub start_passes : (p : Pool) → open_cell p p.start ≡ true → first_failing (0 + 1) (λ k. open_cell p (place_cell p k)) ≡ None
start_passes p unblocked = passing_more (λ k. open_cell p (place_cell p k)) 0 refl unblocked

module _ (p : Pool) (cells : List ℕ) where
  abbrev passes : ℕ → Bool
  passes k = open_cell p (slice_index cells k)

  -- the first of the cells that is not open
  abbrev shut_place : ℕ
  shut_place = position_or_len (λ c. not (open_cell p c)) cells

  before_shut : (k : ℕ) → k < shut_place → passes k ≡ true
  before_shut k l = not-false _ (fails_before_first (λ c. not (open_cell p c)) cells k 0 l)

  first_shut : cond (nat_lt shut_place (length cells)) (Some shut_place) None ≡ first_failing (length cells) passes
  first_shut =
      cond_both (nat_lt shut_place (length cells)) (Some shut_place) None (λ o. o ≡ first_failing (length cells) passes)
      (λ t.
      let within = ltb-true shut_place (length cells) t in
      sym (fails_at passes (length cells) shut_place within (passing_from passes shut_place (below_from shut_place passes before_shut)) (not-true _ (passes_at_first (λ c. not (open_cell p c)) cells 0 within))))
      (λ f.
      let past = ltb-false shut_place (length cells) f in
      sym (passing_from passes (length cells) (below_from (length cells) passes (λ k l. before_shut k (omega arith)))))

-- the lowest place that is not open, as the first of the start and the points
pub closed_first : (p : Pool) → cond (nat_lt (shut_place p (p.start ∷ p.points)) (suc (length p.points))) (Some (shut_place p (p.start ∷ p.points))) None ≡ closed_place p
closed_first p = first_shut p (p.start ∷ p.points)
