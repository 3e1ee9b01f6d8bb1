use Rattle.std.proofs.iter.Yields.{fronts}
use Rattle.std.proofs.Common.{rules, codes, sym, ap, ◌∙◌}
use Rattle.std.proofs.lemmas.Iterator.{YieldsList-from_slice}
use Rattle.std.proofs.lemmas.Iterator.Consumers.{YieldsList-from_copied}
use Rattle.std.proofs.lemmas.Result.{IfOk-weaker}
use Rattle.std.proofs.lemmas.List.{map-id}
use Rattle.itertools.specs.Consumer.{joined}
use Rattle.itertools.proofs.AdaptorLemmas.{items_from_whole_run}
use Rattle.case_files.proofs.lists.list_text.Goals as goal

pub returns : goal.returns
returns g c =
    let slice = YieldsList-from_slice {s = c.iter.result} c.args.items.now (search rules) in
    let road = YieldsList-from_copied {steps = fronts} {s = c.copied.result} (rw c.copied.ensures.source slice) in
    rw (sym c.is_empty.ensures ∙ c.if-is_empty.false) (
    IfOk-weaker c.join.result _ _ (λ text h show shows. h.3 show shows ∙ ap (joined show (codes ",")) (sym (map-id h.0.items) ∙ items_from_whole_run road h.0 h.1 h.2)) c.join.ensures.text)
