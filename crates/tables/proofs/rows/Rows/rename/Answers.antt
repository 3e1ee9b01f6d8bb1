use Rattle.std.proofs.Common.{None, get_or, set, arith}
use Rattle.tables.specs.Tabled.{absent, variable_in, action_in}
use Rattle.tables.proofs.Renaming.{renamed_rows, one_renamed}
use Rattle.tables.proofs.rows.Rows.rename.Goals as goal

pub returns : goal.returns
returns c =
    let r = c.args.self.now in
    let v = c.args.renaming.variable in
    renamed_rows r.variable_count r.action_count v c.args.renaming.from c.args.renaming.to (variable_in r) (λ w. get_or (set r.variables c.from-v.result c.variable_row.result) w absent) (action_in r) (λ a. get_or c.rename_actions.new.actions a None)
    (one_renamed r.variables c.from-v.result v c.args.renaming.from c.args.renaming.to c.variable_row.result c.from-v.ensures (omega arith) c.variable_row.ensures)
    c.rename_actions.ensures
