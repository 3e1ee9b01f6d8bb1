-- What a floor means: the task and the prices of a survey, and when a survey is refused.
use Rattle.std.specs.Prelude.{ℕ, zero, suc, ◌+◌, ◌-◌, ◌*◌, ◌/◌, ◌%◌, ◌^◌, Bool, cond, not, ◌&&◌, List, ◌∷◌, length, is_some, Some, None, vec_items, Option, ◌==◌, nat_le, nat_lt, slice_index}
use Rattle.tasks.specs.declared.refusal.Cause.TheVariants.{FloorSides, PointCount, PriceCount, CellClosed}
use Rattle.tasks.specs.declared.refusal.Refusal.{Refusal}
use Rattle.tasks.specs.Bounds.{first_failing}
use Rattle.tasks.specs.Refusals.{refuse}
use Rattle.tasks.specs.Task.{Task}
use Rattle.floors.specs.declared.cells.Direction.{Direction}
use Rattle.floors.specs.declared.cells.Direction.TheVariants.{North, East, South, West}
use Rattle.floors.specs.declared.survey.Survey.{Survey}
use Rattle.floors.specs.declared.floor.Deed.{Deed}
use Rattle.floors.specs.declared.floor.Deed.TheVariants.{Move, Sample}

-- What is known of a floor. Cell c lies in row c / wide, from the north, and in column c % wide, from the west.
pub record Pool : Type 0 where
  pub wide : ℕ
  pub high : ℕ
  -- bit c, the least being 0, blocks cell c
  pub blocked : ℕ
  -- what it costs to move to each cell
  pub prices : List ℕ
  pub start : ℕ
  -- the cell of point 1, of point 2 ..
  pub points : List ℕ
  -- what it costs to take a sample
  pub sampling : ℕ

abbrev pub pool_of : Survey → Pool
pool_of s = record {
  wide = s.width;
  high = s.height;
  blocked = s.blocked;
  prices = vec_items s.prices;
  start = s.start;
  points = vec_items s.points;
  sampling = s.sampling;
}

abbrev pub cell_count : Pool → ℕ
cell_count p = p.wide * p.high

-- c is a cell of the floor that is not blocked
abbrev pub open_cell : Pool → ℕ → Bool
open_cell p c = nat_lt c (cell_count p) && p.blocked / 2 ^ c % 2 == 0

-- the direction of a move, by its number
abbrev pub heading : ℕ → Direction
heading zero = North
heading (suc zero) = East
heading (suc (suc zero)) = South
heading (suc (suc (suc d))) = West

-- the cell that lies next to cell c
abbrev pub neighbour_of : Pool → ℕ → Direction → Option ℕ
neighbour_of p c North = cond (nat_le p.wide c) (Some (c - p.wide)) None
neighbour_of p c East = cond (nat_lt (c % p.wide + 1) p.wide) (Some (c + 1)) None
neighbour_of p c South = cond (nat_lt (c + p.wide) (cell_count p)) (Some (c + p.wide)) None
neighbour_of p c West = cond (nat_lt 0 (c % p.wide)) (Some (c - 1)) None

-- the move from an open cell to another
abbrev pub move_between : Pool → ℕ → Option ℕ → Option Deed
move_between p c None = None
move_between p c (Some d) = cond (open_cell p c && open_cell p d) (Some (Move c d)) None

-- the sample that is taken at point k + 1
abbrev pub sample_at : Pool → ℕ → Option Deed
sample_at p k = cond (nat_lt k (length p.points)) (Some (Sample (k + 1) (slice_index p.points k))) None

-- What action a does, if it is live: four moves for each cell, then a sample for each point.
abbrev pub deed_of : Pool → ℕ → Option Deed
deed_of p a = cond (nat_lt a (4 * cell_count p)) (move_between p (a / 4) (neighbour_of p (a / 4) (heading (a % 4)))) (sample_at p (a - 4 * cell_count p))

-- the value that a deed requires of variable v
abbrev pub asked_by : Option Deed → ℕ → Option ℕ
asked_by None v = None
asked_by (Some (Move c d)) v = cond (v == 0) (Some c) None
asked_by (Some (Sample k c)) v = cond (v == 0) (Some c) None

-- the value that a deed sets variable v to
abbrev pub set_by : Option Deed → ℕ → Option ℕ
set_by None v = None
set_by (Some (Move c d)) v = cond (v == 0) (Some d) None
set_by (Some (Sample k c)) v = cond (v == k) (Some 1) None

abbrev pub cost_of : Pool → Option Deed → ℕ
cost_of p None = 0
cost_of p (Some (Move c d)) = slice_index p.prices d
cost_of p (Some (Sample k c)) = p.sampling

-- Variable 0 is the robot's cell, and variable k says whether a sample was taken at point k.
abbrev pub surveyed : Pool → Task
surveyed p = record {
  vars = 1 + length p.points;
  acts = 4 * cell_count p + length p.points;
  size = λ v. cond (v == 0) (cell_count p) (cond (nat_le v (length p.points)) 2 0);
  var_live = λ v. nat_le v (length p.points);
  val_live = λ v x. cond (v == 0) (open_cell p x) (nat_le v (length p.points) && nat_lt x 2);
  act_live = λ a. is_some (deed_of p a);
  pre = λ a v. asked_by (deed_of p a) v;
  eff = λ a v. set_by (deed_of p a) v;
  init = λ v. cond (v == 0) p.start 0;
  goal = λ v. cond (v == 0) None (cond (nat_le v (length p.points)) (Some 1) None);
}

abbrev pub tariff_of : Pool → ℕ → ℕ
tariff_of p a = cost_of p (deed_of p a)

-- both sides are 1 to 8
abbrev pub sides_fit : Pool → Bool
sides_fit p = nat_le 1 p.wide && nat_le p.wide 8 && nat_le 1 p.high && nat_le p.high 8

-- the cell of a place: the start's is 0, that of point k is k
abbrev pub place_cell : Pool → ℕ → ℕ
place_cell p k = slice_index (p.start ∷ p.points) k

-- the lowest place that is not open
abbrev pub closed_place : Pool → Option ℕ
closed_place p = first_failing (suc (length p.points)) (λ k. open_cell p (place_cell p k))

-- refused there
abbrev pub closed_refusal : Option ℕ → Option Refusal
closed_refusal None = None
closed_refusal (Some k) = refuse CellClosed k

-- why a survey makes no floor, by the first reason in this order
abbrev pub refusal_of : Pool → Option Refusal
refusal_of p =
    cond (not (sides_fit p)) (refuse FloorSides 0)
    (cond (nat_lt 31 (length p.points)) (refuse PointCount 0)
    (cond (not (length p.prices == cell_count p)) (refuse PriceCount 0) (closed_refusal (closed_place p))))
