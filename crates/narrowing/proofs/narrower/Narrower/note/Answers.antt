use Rattle.narrowing.proofs.RestNoting.{one_known}
use Rattle.narrowing.proofs.Noting.{one_noted}
use Rattle.narrowing.proofs.narrower.Narrower.note.Goals as goal

pub returns-in-Alone-clause-quiet : goal.returns-in-Alone-clause-quiet
returns-in-Alone-clause-quiet c = one_noted c.law_quiet_unless_moved.ensures c.args.self.now c.in-Alone.alone c.in-Alone.is c.mark.new.self c.args.v c.requires c.mark.ensures

pub returns-in-Alone-clause-knows : goal.returns-in-Alone-clause-knows
returns-in-Alone-clause-knows c = one_known c.args.self.now c.in-Alone.alone c.in-Alone.is c.law_known_unless_moved.ensures c.mark.new.self c.args.v c.requires c.mark.ensures
