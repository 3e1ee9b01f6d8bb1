use Rattle.std.proofs.Common.{◌≡◌, drop, None}
use Rattle.detours.specs.Detours.{least_open}
use Rattle.detours.specs.Known.{known}
use Rattle.detours.specs.Marks.{place_of, total_of}
use Rattle.detours.proofs.search.Search.least_open.Given as goal

-- what is left of the labels gives the answer
abbrev pub invariant-loop-value : goal.invariant-loop-value
invariant-loop-value g l = let m = g.M.Measure.scale in let es = known l.self in least_open m (drop l.value es) l.value (place_of l.best) (total_of l.best) ≡ least_open m es 0 None None
