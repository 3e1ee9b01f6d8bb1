-- What is read within a list, and past its end.
use Rattle.std.proofs.Common.{◌≡◌, ℕ, ◌<◌, Bool, true, false, List, length, get_or, sym, ⊎_elim}
use Rattle.std.proofs.lemmas.List.{get_or_past}
use Rattle.std.proofs.lemmas.Bool.{both_ways, cases_lt}

-- what is live is within the list
pub live_within : (xs : List Bool) (i : ℕ) → true ≡ get_or xs i false → i < length xs
live_within xs i e = ⊎_elim (λ l. l) (λ l. absurd (both_ways (get_or xs i false) (get_or_past xs i false l) (sym e))) (cases_lt i (length xs))
