use Rattle.std.proofs.Common.{Err, vec_items, sym, ap, ◌∙◌}
use Rattle.std.proofs.lemmas.Result.{err_from_is_err_and}
use Rattle.tasks.specs.declared.refusal.Refusal.{Refusal}
use Rattle.packed.specs.Decoding.{refusal}
use Rattle.packed.specs.Files.{task_of}
use Rattle.packed.proofs.PackingLaw.{opened_ok, opened_err, decided}
use Rattle.packed.proofs.file.File.open.Goals as goal

pub returns : goal.returns
returns c =
    let bs = vec_items c.args.bytes in
    let same = c.deref.ensures.value in
    let e = opened_ok bs (ap refusal (sym same) ∙ c.in_ok-offsets.ensures.result.0) in
    record { result = e; law = decided _ bs _ same c.check.ensures.law e }

pub returns-in_err-offsets : goal.returns-in_err-offsets
returns-in_err-offsets c =
    let bs = vec_items c.args.bytes in
    let same = c.deref.ensures.value in
    let p = err_from_is_err_and c.from_residual.result c.from_residual.ensures.1 in
    let e = ap task_of p.1 ∙ ap (λ (d : Refusal). Err d) p.2 ∙ opened_err bs _ (ap refusal (sym same) ∙ c.in_err-offsets.ensures.result) in
    record { result = e; law = decided _ bs _ same c.check.ensures.law e }
