use Rattle.std.proofs.Common.{◌<◌, subst}
use Rattle.narrowing.specs.declared.narrower.Narrower.{Narrower}
use Rattle.narrowing.specs.Narrowers.{len_of}
use Rattle.narrowing.proofs.Noting.{alone_noted, one_alone}
use Rattle.narrowing.proofs.RestNoting.{all_awake, none_awake}
use Rattle.narrowing.proofs.narrower.Narrower.note_alone.Goals as goal

pub note_alone-requires : goal.note_alone-requires
note_alone-requires c = subst (λ (m : Narrower). c.args.v < len_of m) c.in-Alone.is c.requires

pub returns-in-Alone-clause-quiet : goal.returns-in-Alone-clause-quiet
returns-in-Alone-clause-quiet c = alone_noted c.law_quiet_unless_moved.ensures c.args.self.now c.in-Alone.alone c.in-Alone.is c.note_alone.new.self.sets.moved c.args.v c.requires c.note_alone.ensures.moved

pub returns-in-Alone-clause-knows : goal.returns-in-Alone-clause-knows
returns-in-Alone-clause-knows c = all_awake c.args.self.now c.in-Alone.alone c.in-Alone.is c.law_known_unless_moved.ensures c.note_alone.new.self.sets.asking.asked c.note_alone.new.self.sets.moved c.note_alone.new.self.sets.asking.rests
    c.note_alone.ensures.rests_count c.note_alone.ensures.awake

pub returns-in-Alone-clause-let_rest : goal.returns-in-Alone-clause-let_rest
returns-in-Alone-clause-let_rest c = none_awake c.args.self.now c.in-Alone.alone c.in-Alone.is c.note_alone.new.self.sets.asking.rests c.note_alone.ensures.awake

pub returns-in-Alone-clause-alone : goal.returns-in-Alone-clause-alone
returns-in-Alone-clause-alone c = one_alone _ c.args.v c.note_alone.new.self.sets.moved c.note_alone.ensures.moved
