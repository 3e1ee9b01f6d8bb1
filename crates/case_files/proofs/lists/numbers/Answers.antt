use Rattle.std.proofs.Common.{Ok, lit<, sym, ap, ◌∙◌}
use Rattle.std.proofs.lemmas.Iterator.Consumers.{YieldsList-end}
use Rattle.std.specs.Str.Iter.{split_text, split_has_more, split_pattern}
use Rattle.std.proofs.lemmas.Iterator.Splits.{YieldsList-from_str_split}
use Rattle.case_files.proofs.Reading.{of_map}
use Rattle.case_files.proofs.lists.numbers.Goals as goal

pub returns : goal.returns
returns g c =
    let same = c.into_iter-item-iterator.ensures.into_iter_gives in
    let split = c.split-item-items.ensures in
    let run = YieldsList-from_str_split {s = c.into_iter-item-iterator.result} 44 c.args.text.now (lit< tt) (ap split_text same ∙ split.text) (ap split_has_more same ∙ split.has_more) (ap split_pattern same ∙ split.pattern) in
    let t = YieldsList-end run c.loop-item.yielded _ c.loop-item.yielded_by _ _ c.in-None.is c.next.ensures.steps in
    rw (sym c.eq.ensures ∙ c.if-eq.false) (rw (sym t.0) (of_map (λ item number. g.T.FromStr.from_str_gives item (Ok number)) (λ item. item.now) c.loop-item.yielded _ c.loop-item.invariant))
