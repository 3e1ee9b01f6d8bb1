use Rattle.std.proofs.Common.{◌≡◌, ◌+◌, ◌*◌, ◌<◌, ◌≤◌, length, ap, ◌∙◌, rules, arith}
use Rattle.packed.specs.Records.{variable_count}
use Rattle.packed.specs.Decoding.{variables}
use Rattle.packed.specs.Files.{contents}
use Rattle.packed.specs.Accepted.{accepted_of}
use Rattle.packed.proofs.file.File.variable.Goals as goal

pub then-requires : goal.then-requires
then-requires c =
    let f = c.args.self.now in
    let bs = contents f in
    let count : c.variables.result ≡ variables bs = c.variables.ensures ∙ ap variable_count c.header.ensures in
    let inside : c.args.variable < c.variables.result → 4 + 3 * c.args.variable + 3 ≤ length bs = λ l. ((accepted_of bs f.accepted).variable c.args.variable (omega arith)).inside in
    search rules
