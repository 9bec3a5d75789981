use Rattle.narrowing.proofs.Noting.{all_noted}
use Rattle.narrowing.proofs.RestNoting.{all_known, none_left}
use Rattle.narrowing.proofs.narrower.Narrower.note_all.Goals as goal

pub returns-in-Alone-clause-quiet : goal.returns-in-Alone-clause-quiet
returns-in-Alone-clause-quiet c = all_noted c.law_quiet_unless_moved.ensures c.args.self.now c.in-Alone.alone c.in-Alone.is c.note_all.new.self.moved c.note_all.ensures.moved

pub returns-in-Alone-clause-knows : goal.returns-in-Alone-clause-knows
returns-in-Alone-clause-knows c =
    all_known c.args.self.now c.in-Alone.alone c.in-Alone.is c.law_known_unless_moved.ensures c.note_all.new.self.asking.asked c.note_all.new.self.moved c.note_all.new.self.asking.rests
    c.note_all.ensures.asked c.note_all.ensures.rests_count c.note_all.ensures.fresh

pub returns-in-Alone-clause-let_rest : goal.returns-in-Alone-clause-let_rest
returns-in-Alone-clause-let_rest c = none_left c.args.self.now c.in-Alone.alone c.in-Alone.is c.note_all.new.self.asking.rests c.note_all.ensures.fresh
