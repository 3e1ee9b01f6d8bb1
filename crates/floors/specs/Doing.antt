-- What is known of the deed of each action, and the actions that do a deed.
use Rattle.std.specs.Prelude.{◌≡◌, ℕ, ◌+◌, ◌-◌, ◌*◌, ◌/◌, ◌%◌, ◌<◌, ◌≤◌, true, ◌&&◌, length, Some, None, Option, ◌==◌, nat_lt, slice_index, slice_index_or, refl}
use Rattle.std.proofs.Common.{ap, ◌∙◌, arith}
use Rattle.std.proofs.lemmas.Nat.{div-mul-add, mod-mul-add}
use Rattle.std.proofs.lemmas.Bool.{and_parts, and_from, cond-true, cond-false, cond_both, eqb-true, ltb-true, lt-ltb, le-ltb, ltb-false}
use Rattle.floors.specs.declared.floor.Deed.{Deed}
use Rattle.floors.specs.declared.floor.Deed.TheVariants.{Move, Sample}
use Rattle.floors.specs.Floors.{Pool, cell_count, open_cell, heading, neighbour_of, move_between, sample_at, deed_of, asked_by, set_by}
use Rattle.tasks.specs.Optional.{chosen}

-- action a moves from c to d
pub record Crossing (p : Pool) (a c d : ℕ) : Type 0 where
  pub low : a < 4 * cell_count p
  pub next : neighbour_of p c (heading (a % 4)) ≡ Some d
  pub from_open : open_cell p c ≡ true
  pub to_open : open_cell p d ≡ true

-- action a takes the sample of point k in cell c
pub record Sampling (p : Pool) (a k c : ℕ) : Type 0 where
  pub some : 1 ≤ k
  pub within : k ≤ length p.points
  pub number : a + 1 ≡ 4 * cell_count p + k
  pub cell : slice_index_or p.points (k - 1) 0 ≡ c

abbrev pub Does : Pool → ℕ → Option Deed → Type 0
Does p a None = Unit {0}
Does p a (Some (Move c d)) = Crossing p a c d
Does p a (Some (Sample k c)) = Sampling p a k c

move_does : (p : Pool) (a : ℕ) → a < 4 * cell_count p → (o : Option ℕ) → neighbour_of p (a / 4) (heading (a % 4)) ≡ o → Does p a (move_between p (a / 4) o)
move_does p a low None e = tt
move_does p a low (Some d) e =
    cond_both (open_cell p (a / 4) && open_cell p d) (Some (Move (a / 4) d)) None (Does p a)
    (λ h. let both = and_parts (open_cell p (a / 4)) (open_cell p d) h in record { low = low; next = e; from_open = both.0; to_open = both.1 })
    (λ h. tt)

sample_does : (p : Pool) (a : ℕ) → 4 * cell_count p ≤ a → Does p a (sample_at p (a - 4 * cell_count p))
sample_does p a high =
    let k = a - 4 * cell_count p in
    cond_both (nat_lt k (length p.points)) (Some (Sample (k + 1) (slice_index p.points k))) None (Does p a)
    (λ h. let l = ltb-true _ _ h in record { some = omega arith; within = omega arith; number = omega arith; cell = ap (λ i. slice_index p.points i) (omega arith) })
    (λ h. tt)

pub deed_does : (p : Pool) (a : ℕ) → Does p a (deed_of p a)
deed_does p a =
    cond_both (nat_lt a (4 * cell_count p)) (move_between p (a / 4) (neighbour_of p (a / 4) (heading (a % 4)))) (sample_at p (a - 4 * cell_count p)) (Does p a)
    (λ h. move_does p a (ltb-true _ _ h) _ refl)
    (λ h. sample_does p a (ltb-false _ _ h))

-- the action of a move
pub crossing_deed : (p : Pool) (c d k : ℕ) → k < 4 → c < cell_count p → neighbour_of p c (heading k) ≡ Some d → open_cell p c ≡ true → open_cell p d ≡ true → deed_of p (c * 4 + k) ≡ Some (Move c d)
crossing_deed p c d k lt within next from to =
    cond-true (nat_lt (c * 4 + k) (4 * cell_count p)) _ _ (lt-ltb _ _ (omega arith))
    ∙ ap (λ n. move_between p n (neighbour_of p n (heading ((c * 4 + k) % 4)))) (div-mul-add c 4 k lt)
    ∙ ap (λ n. move_between p c (neighbour_of p c (heading n))) (mod-mul-add c 4 k lt)
    ∙ ap (move_between p c) next
    ∙ cond-true (open_cell p c && open_cell p d) _ _ (and_from _ _ from to)

-- the action of a sample
pub sampling_deed : (p : Pool) (k : ℕ) → k < length p.points → deed_of p (4 * cell_count p + k) ≡ Some (Sample (k + 1) (slice_index p.points k))
sampling_deed p k lt =
    cond-false (nat_lt (4 * cell_count p + k) (4 * cell_count p)) _ _ (le-ltb _ _ (omega arith))
    ∙ ap (sample_at p) (omega arith)
    ∙ cond-true (nat_lt k (length p.points)) _ _ (lt-ltb _ _ lt)

-- a deed that goes by variable 0 alone is a move
pub is_move : (p : Pool) (a c d : ℕ) (o : Option Deed) → Does p a o → asked_by o 0 ≡ Some c → set_by o 0 ≡ Some d → o ≡ Some (Move c d)
is_move p a c d None w h k = let z : ◌≡◌ {A = ℕ} 0 1 = cc in absurd (omega arith)
is_move p a c d (Some (Move x y)) w h k = cc
is_move p a c d (Some (Sample x y)) w h k = absurd (omega (arith, eqb-true 0 x (chosen (0 == x) 1 d k).0))
