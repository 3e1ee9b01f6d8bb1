-- What is known of a survey that is not refused.
use Rattle.std.specs.Prelude.{◌≡◌, ℕ, suc, ◌<◌, ◌≤◌, true, false, not, length, is_some, Some, None, Option, ◌==◌, nat_lt, slice_index, refl}
use Rattle.std.proofs.Common.{arith}
use Rattle.std.proofs.lemmas.Bool.{both_ways, ltb-false, eqb-true, not-false}
use Rattle.tasks.proofs.Bounded.{passing_at}
use Rattle.tasks.proofs.Refusing.{pass}
use Rattle.floors.specs.Floors.{Pool, cell_count, open_cell, sides_fit, place_cell, closed_place, closed_refusal, refusal_of}
use Rattle.floors.specs.Cells.{Sides, sides_known}

-- a test that is kept as a Bool
no_closed : (o : Option ℕ) → is_some o ≡ false → o ≡ None
no_closed None h = refl
no_closed (Some k) h = absurd (both_ways true h refl)

all_open : (p : Pool) → is_some (closed_place p) ≡ false → (k : ℕ) → k < suc (length p.points) → open_cell p (place_cell p k) ≡ true
all_open p h = passing_at (λ k. open_cell p (place_cell p k)) (suc (length p.points)) (no_closed (closed_place p) h)

pub record Accepted (p : Pool) : Type 0 where
  pub sides : Sides p
  pub few : length p.points ≤ 31
  pub paid : length p.prices ≡ cell_count p
  pub start_open : open_cell p p.start ≡ true
  pub point_open : (k : ℕ) → k < length p.points → open_cell p (slice_index p.points k) ≡ true

pub accepted_from : (p : Pool) → sides_fit p ≡ true → length p.points ≤ 31 → length p.prices ≡ cell_count p → is_some (closed_place p) ≡ false → Accepted p
accepted_from p fit few paid clear = record {
  sides = sides_known p fit;
  few = few;
  paid = paid;
  start_open = all_open p clear 0 (omega arith);
  point_open = λ k lt. all_open p clear (suc k) (omega arith);
}

no_place : (o : Option ℕ) → closed_refusal o ≡ None → is_some o ≡ false
no_place None h = refl
no_place (Some k) h = let z : ◌≡◌ {A = ℕ} 0 1 = cc in absurd (omega arith)

pub record Unrefused (p : Pool) : Type 0 where
  pub fit : sides_fit p ≡ true
  pub few : length p.points ≤ 31
  pub paid : length p.prices ≡ cell_count p
  pub clear : is_some (closed_place p) ≡ false

pub not_refused : (p : Pool) → refusal_of p ≡ None → Unrefused p
not_refused p h =
    let a = pass (not (sides_fit p)) _ _ h in
    let b = pass (nat_lt 31 (length p.points)) _ _ a.1 in
    let d = pass (not (length p.prices == cell_count p)) _ _ b.1 in
    record { fit = not-false _ a.0; few = ltb-false _ _ b.0; paid = eqb-true _ _ (not-false _ d.0); clear = no_place (closed_place p) d.1 }

pub accepted_by : (p : Pool) → Unrefused p → Accepted p
accepted_by p u = accepted_from p u.fit u.few u.paid u.clear
