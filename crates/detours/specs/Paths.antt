-- What an answer of the code says.
use Rattle.std.specs.Prelude.{Some, None, Option}
use Rattle.detours.specs.declared.path.Path.{Path}
use Rattle.detours.specs.Detours.{Found}

abbrev pub found_in : {S : Type 0} → Path S → Found S
found_in p = record { actions = p.actions.items; total = p.total }

abbrev pub answered : {S : Type 0} → Option (Path S) → Option (Found S)
answered None = None
answered (Some p) = Some (found_in p)
