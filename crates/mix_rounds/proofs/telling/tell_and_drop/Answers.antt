use Rattle.mix_rounds.proofs.TellingAll.{all_may_drop_later, keeps_all_inside}
use Rattle.mix_rounds.proofs.Stepping.{stepped_more, seat_of_same}
use Rattle.std.proofs.Common.{refl}
use Rattle.mix_rounds.proofs.telling.tell_and_drop.Goals as goal

pub drop_all-requires : goal.drop_all-requires
drop_all-requires c = record {
  store = seat_of_same c.args.store.now c.args.store.now c.args.seat.now c.tell_all.new.seat c.requires.store c.tell_all.ensures.stepped.same refl;
  kernel = c.requires.mix_kernel;
  proper = c.requires.mix_proper;
  drops = all_may_drop_later c.args.seat.now c.tell_all.new.seat c.args.moved.now c.tell_all.new.moved _ c.tell_all.ensures.stepped c.requires.drops;
}

pub returns : goal.returns
returns c = record {
  stepped = stepped_more c.args.seat.now c.tell_all.new.seat c.drop_all.new.seat c.args.moved.now c.tell_all.new.moved c.drop_all.new.moved c.tell_all.ensures.stepped c.drop_all.ensures.stepped;
  kept = keeps_all_inside _ _ _ c.drop_all.ensures.stepped.inside c.tell_all.ensures.kept;
  gone = c.drop_all.ensures.gone;
}
