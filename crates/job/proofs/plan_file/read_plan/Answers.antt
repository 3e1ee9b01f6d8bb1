use Rattle.job.proofs.Numbers.{numbers_more}
use Rattle.job.proofs.plan_file.read_plan.Goals as goal

pub loop-action-preserved : goal.loop-action-preserved
loop-action-preserved c =
    numbers_more _ _ _ _ _ _ _ _ c.as_chunks.ensures.front c.as_chunks.ensures.front_len c.loop-action-test.true c.loop-action.invariant c.from_be_bytes.ensures c.in_ok-push.ensures.items
