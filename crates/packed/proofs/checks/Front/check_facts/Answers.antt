use Rattle.std.proofs.lemmas.Result.{err_from_is_err_and}
use Rattle.packed.specs.Decoding.{fact_refusal}
use Rattle.packed.proofs.Unless.{goes_on, stops}
use Rattle.packed.proofs.checks.Front.check_facts.Goals as goal

pub returns-in_err-check_fact : goal.returns-in_err-check_fact
returns-in_err-check_fact c =
    stops (fact_refusal c.args.self.now.bytes.now c.args.list) c.args.count c.loop-index.index c.loop-index.invariant c.from_residual.result c.in_err-check_fact.field-0.0 c.loop-index-test.true c.in_err-check_fact.ensures (err_from_is_err_and c.from_residual.result c.from_residual.ensures.1)

pub loop-index-preserved : goal.loop-index-preserved
loop-index-preserved c = goes_on (fact_refusal c.args.self.now.bytes.now c.args.list) c.args.count c.loop-index.index c.loop-index.invariant _ c.in_ok-check_fact.ensures
