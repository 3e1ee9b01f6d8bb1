-- What the code knows of each variable.
use Rattle.std.specs.Prelude.{Some, None, Option, slice_index_or}
use Rattle.reductions.specs.Steps.{Known}
use Rattle.acceptance.specs.declared.known.Known.{Known as Array}

-- what an array of known values says
abbrev pub knows : Array → Known
knows k = λ w. slice_index_or k.values w None

abbrev pub known_in : Option Array → Option Known
known_in None = None
known_in (Some k) = Some (knows k)
