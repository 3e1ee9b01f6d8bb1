-- The worked examples: what the definitions say of two small pools, as one table.
use Rattle.std.specs.Prelude.{◌≡◌, ℕ, List, [], ◌∷◌, take, Some, None, Ok, Err}
use Rattle.tasks.specs.declared.refusal.Cause.{Cause}
use Rattle.tasks.specs.declared.refusal.Cause.TheVariants.{CutShort, CannotRun, GoalMissed}
use Rattle.tasks.specs.Task.{Priced, priced}
use Rattle.tasks.specs.Measures.{CostAlgebra, charge, depth}
use Rattle.tasks.specs.Totals.{checked_total}
use Rattle.packed.specs.Decoding.{refusal, decoded, variables, actions}
use Rattle.packed.specs.Packing.{packing}
use Rattle.floors.specs.Floors.{Pool, refusal_of, surveyed, tariff_of}

-- A packed file: a valve (variable 0) that is turned at price 3 either way, and a basin (variable 1) that is to be filled, at
-- price 2 while the valve is at 1.
abbrev pub file : List ℕ
file =
    0x10 ∷ 0x80 ∷ 0x30 ∷ 0x00
    ∷ 0x04 ∷ 0x00 ∷ 0x00 ∷ 0x04 ∷ 0x08 ∷ 0x20
    ∷ 0x00 ∷ 0x03 ∷ 0x04 ∷ 0x10 ∷ 0x00 ∷ 0x00 ∷ 0x00 ∷ 0x20
    ∷ 0x00 ∷ 0x03 ∷ 0x04 ∷ 0x10 ∷ 0x00 ∷ 0x20 ∷ 0x00 ∷ 0x00
    ∷ 0x00 ∷ 0x02 ∷ 0x08 ∷ 0x10 ∷ 0x00 ∷ 0x20 ∷ 0x08 ∷ 0x00 ∷ 0x08 ∷ 0x20 ∷ []

-- A floor of three cells by two, of which cell 1 costs 9 and the others 1; a point at cell 2.
abbrev pub pool : Pool
pool = record { wide = 3; high = 2; blocked = 0; prices = 1 ∷ 9 ∷ 1 ∷ 1 ∷ 1 ∷ 1 ∷ []; start = 0; points = 2 ∷ []; sampling = 1 }

abbrev pub floor : Priced
floor = priced (surveyed pool) (tariff_of pool)

-- what a plan comes to: its total, or the cause and the place of its refusal
abbrev pub Costs : CostAlgebra ℕ → Priced → List ℕ → ℕ → Type 0
Costs m p plan total = checked_total m p plan ≡ Ok total

abbrev pub Refuses : Priced → List ℕ → Cause → ℕ → Type 0
Refuses p plan cause place = checked_total charge p plan ≡ Err (record { cause = cause; place = place })

pub record SmallPools : Type 0 where
  pub opens : refusal file ≡ None
  pub counts : (variables file ≡ 2) × (actions file ≡ 3)
  pub cut_short : refusal (take 35 file) ≡ Some (record { cause = CutShort; place = 34 })
  pub packed_again : packing (decoded file) ≡ file
  pub cannot_run : Refuses (decoded file) (1 ∷ []) CannotRun 0
  pub goal_missed : Refuses (decoded file) (0 ∷ []) GoalMissed 1
  pub filled : Costs charge (decoded file) (0 ∷ 2 ∷ []) 5
  pub filled_in_depth : Costs depth (decoded file) (0 ∷ 2 ∷ []) 3
  pub floor_stands : refusal_of pool ≡ None
  -- the long way round is the cheaper one
  pub round : Costs charge floor (2 ∷ 13 ∷ 17 ∷ 20 ∷ 24 ∷ []) 5
  pub straight : Costs charge floor (1 ∷ 5 ∷ 24 ∷ []) 11
