use Rattle.std.proofs.Common.{rules}
use Rattle.acceptance.proofs.MarkingLoop.{round_more, round_last, rounds_first}
use Rattle.acceptance.proofs.marks.Marks.mark_rounds.Goals as goal

pub loop-round-init : goal.loop-round-init
loop-round-init c = rounds_first c.args.edges.now c.args.rounds c.args.self.now.marked

pub loop-round-preserved : goal.loop-round-preserved
loop-round-preserved c = search (rules, round_more)

pub returns-then-not-mark_targets : goal.returns-then-not-mark_targets
returns-then-not-mark_targets c = round_last c.args.edges.now c.args.rounds c.loop-round._round c.loop-round.self.marked c.mark_targets.new.self.marked c.args.self.now.marked c.loop-round.invariant c.mark_targets.ensures.0 (c.mark_targets.ensures.1 c.if-not-mark_targets.true)
