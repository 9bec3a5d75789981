use Rattle.constraint_model.proofs.NameLaws.{found_nowhere}
use Rattle.constraint_model.proofs.table.first_named.Goals as goal

pub returns : goal.returns
returns c = found_nowhere c.args.rows.now c.args.word.now c.loop-row.row-index c.requires c.loop-row.invariant c.loop-row-test.false
