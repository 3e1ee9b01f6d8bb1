use Rattle.std.proofs.Common.{◌≡◌, ℕ, eqb, ap, ◌∙◌, rules, arith}
use borrow.Author.Tests.{tests}
use Rattle.std.specs.Option.{option_map}
use Rattle.std.proofs.lemmas.Iterator.{YieldsList-from_range, YieldsList-from_map_by}
use Rattle.std.proofs.lemmas.Iterator.Search.{find_from_yields_List}
use Rattle.packed.specs.declared.records.Fact.{Fact}
use Rattle.packed.specs.Records.{fact_variable, fact_value}
use Rattle.packed.specs.Decoding.{fact_record}
use Rattle.packed.specs.Files.{contents}
use Rattle.packed.proofs.Lookups.{found_fact}
use Rattle.packed.proofs.file.File.look_up.Goals as goal

pub returns : goal.returns
returns c =
    let bs = contents c.args.self.now in
    let place = c.args.place in
    let v = c.args.variable in
    let bits = λ (f : Fact). f.bits in
    let valued : c.map-2.result ≡ option_map fact_value (option_map bits c.find.result) = search rules in
    let found =
    find_from_yields_List {v = bits} (λ (n : ℕ). eqb (fact_variable n) v) _ _ c.find.result c.find.ensures.ran
    (YieldsList-from_map_by _ bits (fact_record bs place) (YieldsList-from_range 0 c.args.count c.args.count (search rules) (omega arith)) c.map.ensures.closure (λ x r q k. search rules))
    (λ x b q k. search (rules, tests)) in
    valued ∙ ap (option_map fact_value) found ∙ found_fact bs place v c.args.count
