use Rattle.std.proofs.Common.{ℕ, None, Option, cond, eqb, get_or, set, refl, ap, ◌∙◌}
use Rattle.reductions.specs.Applying.{rename_to}
use Rattle.tables.proofs.Writes.{changed}
use Rattle.tables.proofs.rows.renaming.Renaming.rename_fact.Goals as goal

pub returns : goal.returns
returns c = λ w.
    let named = rename_to c.args.self.from c.args.self.to in
    let row = c.args.facts.now in
    ap (λ (o : Option ℕ). get_or (set row c.from-v.result o) w None) c.mention.ensures
    ∙ changed {A = Option ℕ} named None refl row c.from-v.result w
    ∙ ap (λ (v : ℕ). cond (eqb w v) (named (get_or row w None)) (get_or row w None)) c.from-v.ensures
