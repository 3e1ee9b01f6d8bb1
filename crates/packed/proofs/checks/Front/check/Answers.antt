use Rattle.std.proofs.Common.{◌≡◌, None, sym, ap, ◌∙◌}
use Rattle.tasks.specs.Bounds.{first_some}
use Rattle.packed.specs.Records.{variable_count}
use Rattle.packed.specs.Decoding.{variables, header_refusal, variable_refusal}
use Rattle.packed.specs.Accepted.{header_accepted, variables_inside}
use Rattle.packed.proofs.Unless.{passed, answer}
use Rattle.packed.proofs.checks.Front.check.Goals as goal

pub invariant_of-result : goal.invariant_of-result
invariant_of-result c =
    let bs = c.args.bytes.now in
    let fine = passed (header_refusal bs) _ _ c.in_ok-header.ensures in
    let front = header_accepted bs fine in
    let bits = ap (λ h. h.bits) (answer (header_refusal bs) _ _ c.in_ok-header.ensures) in
    let count = c.variables.ensures ∙ ap variable_count bits in
    let stand : first_some (variables bs) (variable_refusal bs) ≡ None = ap (λ n. first_some n (variable_refusal bs)) (sym count) ∙ passed (first_some c.variables.result (variable_refusal bs)) tt _ c.in_ok-check_variables.ensures in
    record { read = bits; first = fine; variables = stand; short = front.short; few = front.few_actions; inside = variables_inside bs fine stand }
