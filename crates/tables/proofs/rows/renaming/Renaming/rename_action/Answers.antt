use Rattle.std.proofs.Common.{refl}
use Rattle.tables.proofs.rows.renaming.Renaming.rename_action.Goals as goal

pub returns-in-Some : goal.returns-in-Some
returns-in-Some c = rw c.in-Some.is (record {
  live = refl;
  price = refl;
  preconditions = c.rename_fact.ensures;
  effects = c.rename_fact-in-Some.ensures;
})
