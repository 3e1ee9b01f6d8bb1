-- Lists as the case files write them.
use Rattle.std.specs.Prelude.{ℕ, cond, ◌==◌, List, [], length, codes, bytes_eq}
use Rattle.std.specs.List.{slice_split}
use Rattle.itertools.specs.Consumer.{joined}

-- the texts of the items with commas between them, and `-` for none
abbrev pub list_of : {A : Type 0} → (A → List ℕ) → List A → List ℕ
list_of show items = cond (length items == 0) (codes "-") (joined show (codes ",") items)

-- the texts between the commas, and none in `-`
abbrev pub items_of : List ℕ → List (List ℕ)
items_of text = cond (bytes_eq text (codes "-")) [] (slice_split (λ b. b == 44) text)
