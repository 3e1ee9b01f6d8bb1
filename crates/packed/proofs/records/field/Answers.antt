use Rattle.std.proofs.Common.{◌-◌, ◌/◌, ◌^◌, ap, ◌∙◌, arith}
use lib.Bits.{bit_and}
use Rattle.std.proofs.lemmas.Nat.{one_shl, and_mask}
use Rattle.packed.proofs.records.field.Goals as goal

pub returns : goal.returns
returns c =
    let high = c.args.n / 2 ^ c.args.low in
    ap (λ m. bit_and high (m - 1)) (one_shl c.args.width 32 (omega arith)) ∙ and_mask high c.args.width
