use Rattle.std.proofs.Common.{◌≡◌, None}
use Rattle.packed.specs.Decoding.{facts_refusal}
use Rattle.packed.proofs.checks.Front.check_facts.Given as goal

abbrev pub invariant-loop-index : goal.invariant-loop-index
invariant-loop-index l = facts_refusal l.self.bytes.now l.list l.index ≡ None
