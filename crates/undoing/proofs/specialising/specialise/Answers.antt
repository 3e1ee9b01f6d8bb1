use Rattle.std.proofs.Common.{Some}
use Rattle.undoing.proofs.SpecialiseLoop.{specialise_end}
use Rattle.undoing.proofs.specialising.specialise.Goals as goal

pub returns : goal.returns
returns g c =
    let s = c.args.step.now in (
      c.loop-other.invariant.same_reference,
      c.loop-other.invariant.on c.loop-other.out.buffer.now (Some c.loop-other.out.written) (specialise_end (g.T.Task.meant c.args.task.now) s.variable s.action s.twin c.args.list.now c.loop-other.other-index c.loop-other.value c.loop-other-test.false c.loop-other.out.buffer.now c.loop-other.out.written c.loop-other.out.within),
    )
