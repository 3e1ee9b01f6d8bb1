use Rattle.std.proofs.Common.{◌≡◌, sym, ap, ◌∙◌, arith}
use Rattle.std.proofs.lemmas.Result.{err_from_is_err_and}
use Rattle.packed.specs.Records.{action_count}
use Rattle.packed.specs.Decoding.{actions}
use Rattle.packed.proofs.Scanning.{scanned_more, scanned_stop, wrong_action, past_actions}
use Rattle.packed.proofs.Unless.{passed, stopped}
use Rattle.packed.proofs.checks.Front.check_actions.Goals as goal

pub returns-in_err-place : goal.returns-in_err-place
returns-in_err-place c =
    let f = c.args.self.now in
    let bs = f.bytes.now in
    let all : c.actions-action-end.result ≡ actions bs = c.actions-action-end.ensures ∙ ap action_count f.read in
    let found = wrong_action bs f.first f.variables _ (scanned_stop bs c.loop-action.offsets c.loop-action.action c.loop-action.place c.loop-action.invariant c.in_err-place.field-0.0 (omega arith) (sym c.in_err-place.was ∙ c.check_action.ensures)) in
    let p = err_from_is_err_and c.from_residual.result c.from_residual.ensures.1 in
    rw (p.1, p.2) found

pub loop-action-preserved : goal.loop-action-preserved
loop-action-preserved c =
    let f = c.args.self.now in
    let all : c.actions-action-end.result ≡ actions f.bytes.now = c.actions-action-end.ensures ∙ ap action_count f.read in
    scanned_more f.bytes.now c.loop-action.offsets c.loop-action.action c.loop-action.place c.loop-action.invariant c.from.result c.in_ok-place.place (omega (arith, f.few)) c.from.ensures (sym c.in_ok-place.was ∙ c.check_action.ensures)

pub returns-in_err-check_end : goal.returns-in_err-check_end
returns-in_err-check_end c =
    let f = c.args.self.now in
    let bs = f.bytes.now in
    let all : c.actions-action-end.result ≡ actions bs = c.actions-action-end.ensures ∙ ap action_count f.read in
    let found = past_actions bs f.first f.variables c.loop-action.offsets c.loop-action.action c.loop-action.place c.loop-action.invariant (omega arith) ∙ stopped _ tt c.in_err-check_end.field-0.0 c.in_err-check_end.ensures in
    let p = err_from_is_err_and c.from_residual-in_err-check_end.result c.from_residual-in_err-check_end.ensures.1 in
    rw (p.1, p.2) found

pub returns : goal.returns
returns c =
    let f = c.args.self.now in
    let bs = f.bytes.now in
    let count : c.actions-action-end.result ≡ actions bs = c.actions-action-end.ensures ∙ ap action_count f.read in
    let all : c.loop-action.action ≡ actions bs = omega arith in
    (past_actions bs f.first f.variables c.loop-action.offsets c.loop-action.action c.loop-action.place c.loop-action.invariant all ∙ passed _ tt _ c.in_ok-check_end.ensures, λ a l. c.loop-action.invariant.placed a (omega arith))
