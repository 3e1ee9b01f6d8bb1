use Rattle.std.proofs.Common.{ℕ, ◌<◌, get_or, refl, rules, arith}
use Rattle.std.proofs.lemmas.Fn.{fold_over, fronts, slice_gives}
use Rattle.packed.proofs.Reading.{Read, read_more, read_all}
use Rattle.packed.proofs.records.number.Goals as goal

pub returns : goal.returns
returns g c =
    let bs = c.args.bytes.now in
    let place = c.args.place in
    let small : (k : ℕ) → get_or bs k 0 < 256 = λ k. omega (arith, c.type_inv.bytes k) in
    read_all bs small place c.iter.result.rest.now g.row.WIDTH c.fold.result (search rules) c.requires.inside c.requires.few
    (fold_over fronts (λ y. y.now) _ (Read bs small place) _ (λ ys a x b f h k. (read_more bs small place ys a x.now b h (search rules), search rules)) c.iter.result _ 0 c.fold.result (slice_gives c.iter.result) (λ l h. refl) c.fold.ensures.ran)
