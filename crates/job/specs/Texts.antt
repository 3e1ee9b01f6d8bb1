-- The lines that a report prints.
use Rattle.std.specs.Prelude.{ℕ, List, [], ◌∷◌, ◌++◌, length, codes, decimal}

-- each action number on a line of its own
abbrev pub action_lines : List ℕ → List ℕ
action_lines [] = []
action_lines (a ∷ rest) = codes "\n" ++ decimal a ++ action_lines rest

-- how many steps stand, and the length and total of the plan
abbrev pub report_head : ℕ → ℕ → List ℕ
report_head size total = codes "steps 0\nplan " ++ (decimal size ++ (codes " total " ++ decimal total))

abbrev pub report_text : List ℕ → ℕ → List ℕ
report_text plan total = report_head (length plan) total ++ action_lines plan
