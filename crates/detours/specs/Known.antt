-- What is known while a detour is searched.
use Rattle.std.specs.Prelude.{List}
use Rattle.detours.specs.declared.search.Search.{Search}
use Rattle.detours.specs.Detours.{Label}
use Rattle.detours.specs.Marks.{labels}

-- the label of each value
abbrev pub known : {M S : Type 0} {G : _} → Search M S G → List (Label S)
known s = labels s.marks s.totals.now
