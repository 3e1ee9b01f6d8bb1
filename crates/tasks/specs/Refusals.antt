-- The number, the layer word and the line of each refusal.
use Rattle.std.specs.Prelude.{ℕ, List, ◌++◌, Some, codes, decimal, Option}
use Rattle.tasks.specs.declared.refusal.Cause.{Cause}
use Rattle.tasks.specs.declared.refusal.Cause.TheVariants.{FileLength, Layout, Counts, SpareBit, CutShort, ValueRange, VariableOrder, LeftOver, FloorSides, PointCount, PriceCount, CellClosed, PileFull, NotLive, MergeUnfit, GeneraliseUnfit, VariableUnfit, ListUnfit, ActionUnfit, AbstractUnfit, NoStep, BufferSizes, CannotRun, GoalMissed, BufferShort, PlanFile}
use Rattle.tasks.specs.declared.refusal.Refusal.{Refusal}

abbrev pub number : Cause → ℕ
number FileLength = 1
number Layout = 2
number Counts = 3
number SpareBit = 4
number CutShort = 5
number ValueRange = 6
number VariableOrder = 7
number LeftOver = 9
number FloorSides = 10
number PointCount = 11
number PriceCount = 12
number CellClosed = 13
number PileFull = 20
number NotLive = 21
number MergeUnfit = 22
number GeneraliseUnfit = 23
number VariableUnfit = 24
number ListUnfit = 25
number ActionUnfit = 26
number AbstractUnfit = 27
number NoStep = 28
number BufferSizes = 30
number CannotRun = 31
number GoalMissed = 32
number BufferShort = 33
number PlanFile = 36

-- The part of the library that refuses.
pub data Layer : Type 0 where
  file floor pile plan program : Layer

abbrev pub layer : Cause → Layer
layer FileLength = file
layer Layout = file
layer Counts = file
layer SpareBit = file
layer CutShort = file
layer ValueRange = file
layer VariableOrder = file
layer LeftOver = file
layer FloorSides = floor
layer PointCount = floor
layer PriceCount = floor
layer CellClosed = floor
layer PileFull = pile
layer NotLive = pile
layer MergeUnfit = pile
layer GeneraliseUnfit = pile
layer VariableUnfit = pile
layer ListUnfit = pile
layer ActionUnfit = pile
layer AbstractUnfit = pile
layer NoStep = pile
layer BufferSizes = plan
layer CannotRun = plan
layer GoalMissed = plan
layer BufferShort = plan
layer PlanFile = program

abbrev pub word : Layer → List ℕ
word file = codes "file"
word floor = codes "floor"
word pile = codes "pile"
word plan = codes "plan"
word program = codes "program"

-- what a check answers where it refuses
abbrev pub refuse : Cause → ℕ → Option Refusal
refuse cause place = Some (record { cause = cause; place = place })

-- `refused NUMBER LAYER PLACE`
abbrev pub line : Cause → ℕ → List ℕ
line cause place = codes "refused " ++ (decimal (number cause) ++ (codes " " ++ (word (layer cause) ++ (codes " " ++ decimal place))))
