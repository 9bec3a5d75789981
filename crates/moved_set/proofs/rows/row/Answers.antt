use Rattle.moved_set.proofs.RowLaws.{row_lent}
use Rattle.moved_set.proofs.rows.row.Goals as goal

pub returns : goal.returns
returns c = row_lent c.args.rows.now c.args.place c.index-rows-place.result c.as_slice.result.now c.requires c.index-rows-place.is c.as_slice.ensures.value
