-- The records of a packed file: the number that the bytes of one make, and the fields of that number.
use Rattle.std.specs.Prelude.{ℕ, zero, suc, ◌+◌, ◌*◌, ◌/◌, ◌%◌, ◌^◌, Bool, cond, ◌&&◌, List, Some, None, Option, ◌==◌, nat_lt, slice_index}

-- the number that k bytes make, from a place on, most significant first
abbrev pub word : List ℕ → ℕ → ℕ → ℕ
word bytes place zero = 0
word bytes place (suc k) = word bytes place k * 256 + slice_index bytes (place + k)

-- so many bits of a number, above its lowest ones
abbrev pub field : ℕ → ℕ → ℕ → ℕ
field n low width = (n / 2 ^ low) % 2 ^ width

-- the first record, 32 bits
abbrev pub layout : ℕ → ℕ
layout n = field n 28 4

abbrev pub variable_count : ℕ → ℕ
variable_count n = field n 22 6

abbrev pub action_count : ℕ → ℕ
action_count n = field n 12 10

abbrev pub header_spare : ℕ → ℕ
header_spare n = field n 0 12

-- a variable, 24 bits: how many values it has, less one; its initial value; whether it has a goal; the goal's value
abbrev pub size_of : ℕ → ℕ
size_of n = field n 18 6 + 1

abbrev pub initial_of : ℕ → ℕ
initial_of n = field n 12 6

abbrev pub goal_bit : ℕ → ℕ
goal_bit n = field n 11 1

abbrev pub goal_value : ℕ → ℕ
goal_value n = field n 5 6

abbrev pub goal_of : ℕ → Option ℕ
goal_of n = cond (goal_bit n == 1) (Some (goal_value n)) None

-- the initial value is one of the variable's, and so is its goal; the goal's field is 0 where there is none
abbrev pub values_fit : ℕ → Bool
values_fit n = nat_lt (initial_of n) (size_of n) && cond (goal_bit n == 1) (nat_lt (goal_value n) (size_of n)) (goal_value n == 0)

abbrev pub variable_spare : ℕ → ℕ
variable_spare n = field n 0 5

-- an action, 32 bits: its price, and how many preconditions and effects follow
abbrev pub price_of : ℕ → ℕ
price_of n = field n 16 16

abbrev pub precondition_count : ℕ → ℕ
precondition_count n = field n 10 6

abbrev pub effect_count : ℕ → ℕ
effect_count n = field n 4 6

abbrev pub action_spare : ℕ → ℕ
action_spare n = field n 0 4

-- a fact, 16 bits, which is a precondition or an effect: a variable and its value
abbrev pub fact_variable : ℕ → ℕ
fact_variable n = field n 11 5

abbrev pub fact_value : ℕ → ℕ
fact_value n = field n 5 6

abbrev pub fact_spare : ℕ → ℕ
fact_spare n = field n 0 5
