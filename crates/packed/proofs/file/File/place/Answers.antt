use Rattle.std.proofs.Common.{◌≡◌, ltb, Some, None, cond, rules}
use Rattle.packed.specs.Decoding.{actions, action_at}
use Rattle.packed.specs.Files.{contents}
use Rattle.packed.specs.Accepted.{accepted_of}
use Rattle.packed.proofs.Lookups.{place_inside}
use Rattle.packed.proofs.file.File.place.Goals as goal

pub returns-clause-inside : goal.returns-clause-inside
returns-clause-inside c =
    let f = c.args.self.now in
    let bs = contents f in
    let value : c.then_some.result ≡ cond (ltb c.args.action (actions bs)) (Some (action_at bs c.args.action)) None = search rules in
    rw f.bytes.ok.0 (place_inside bs (accepted_of bs f.accepted) c.args.action c.then_some.result value)
