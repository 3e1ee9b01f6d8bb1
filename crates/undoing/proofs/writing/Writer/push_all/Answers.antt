use Rattle.std.proofs.Common.{Some}
use Rattle.undoing.proofs.WritingOn.{items_end}
use Rattle.undoing.proofs.writing.Writer.push_all.Goals as goal

pub returns : goal.returns
returns c = (c.loop-action.invariant.same_reference, c.loop-action.invariant.on c.loop-action.self.buffer.now (Some c.loop-action.self.written) (items_end c.args.list.now c.loop-action.self.buffer.now c.loop-action.self.written c.loop-action.action-index c.loop-action-test.false c.loop-action.self.within))
