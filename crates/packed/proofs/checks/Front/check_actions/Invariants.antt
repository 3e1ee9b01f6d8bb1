use Rattle.packed.proofs.Scanning.{Scanned}
use Rattle.packed.proofs.checks.Front.check_actions.Given as goal

abbrev pub invariant-loop-action : goal.invariant-loop-action
invariant-loop-action l = Scanned l.self.bytes.now l.offsets l.action l.place
