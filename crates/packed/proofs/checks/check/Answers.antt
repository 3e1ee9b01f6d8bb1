use Rattle.std.proofs.Common.{ℕ, List, get_or, Fits, w8, arith}
use Rattle.packed.specs.Decoding.{opened}
use Rattle.packed.specs.Packing.{PackingDecides}
use Rattle.packed.proofs.PackingLaw.{packing_decides}
use Rattle.packed.proofs.checks.check.Goals as goal

law : (bs : List ℕ) → ((k : ℕ) → Fits w8 (get_or bs k 0)) → PackingDecides bs (opened bs)
law bs byte = packing_decides bs (λ k. omega (arith, byte k))

pub returns-in_err-check-clause-law : goal.returns-in_err-check-clause-law
returns-in_err-check-clause-law c = law c.args.bytes.now c.type_inv.bytes

pub returns-clause-law : goal.returns-clause-law
returns-clause-law c = law c.args.bytes.now c.type_inv.bytes
