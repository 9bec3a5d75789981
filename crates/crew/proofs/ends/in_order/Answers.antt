use Rattle.crew.proofs.Filling.{all_held, are_in_order}
use Rattle.crew.proofs.ends.in_order.Goals as goal

pub ends_of-requires : goal.ends_of-requires
ends_of-requires g c = all_held c.args.count c.args.runs.items c.fill.new.slots.items c.requires c.fill.ensures

pub returns : goal.returns
returns g c = are_in_order c.args.count c.args.runs.items c.fill.new.slots.items c.in_ok-ends.ends c.requires c.fill.ensures c.in_ok-ends.ensures
