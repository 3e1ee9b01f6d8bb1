use Rattle.std.proofs.Common.{Ok, vec_items}
use Rattle.std.specs.List.{AllZip}
use Rattle.case_files.proofs.lists.numbers.Given as goal

-- the items so far are read
abbrev pub invariant-loop-item : goal.invariant-loop-item
invariant-loop-item g l = AllZip (λ item number. g.T.FromStr.from_str_gives item.now (Ok number)) l.yielded (vec_items l.numbers)
