use Rattle.reductions.specs.Acceptance.{refusal_of}
use Rattle.reductions.specs.Named.{step_of}
use Rattle.reductions.proofs.Accepted.{accepted_at, answered_ok}
use Rattle.tables.specs.Tabled.{tabled}
use Rattle.tables.proofs.table.Table.reduce.Goals as goal

pub apply-requires : goal.apply-requires
apply-requires c =
    let p = tabled c.args.self.now.rows in
    let s = step_of c.args.step.now in
    accepted_at p s (answered_ok _ (refusal_of p s) _ (c.in_ok-accept.was) c.accept.ensures)
