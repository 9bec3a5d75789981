use Rattle.std.proofs.Common.{ℕ, length, sym, refl, subst, ◌∙◌}
use Rattle.std.specs.Prelude.{IfSome}
use Rattle.guarded_tell.specs.Kernels.{IsKernel, IsClosedUnder}
use Rattle.lattice_store.specs.Seats.{seen_of, floor_of}
use Rattle.rounds.proofs.Quietness.{may_tell_all, heard_now}
use Rattle.rounds.proofs.Stepping.{stepped_more}
use Rattle.rounds.proofs.TellingAll.{seat_of_same}
use Rattle.rounds.proofs.share.run_kernel.Goals as goal

pub tell_all-requires : goal.tell_all-requires
tell_all-requires c =
    let s = c.take_snapshot.ensures.stepped in
    let kernel : IsKernel (length c.take_snapshot.new.snapshot) c.args.kernel.now = subst (λ (n : ℕ). IsKernel n c.args.kernel.now) (sym c.take_snapshot.ensures.length) c.requires.kernel in
    let floor : IfSome (floor_of c.take_snapshot.new.seat) (IsClosedUnder c.args.kernel.now) = subst (λ f. IfSome f (IsClosedUnder c.args.kernel.now)) (sym s.same.floor) c.requires.floor in
    record {
      store = seat_of_same c.args.store.now c.args.store.now c.args.seat.now c.take_snapshot.new.seat c.requires.store s.same refl;
      kernel = kernel;
      proper = c.if-take_snapshot.ensures.taken.proper;
      tells = may_tell_all c.law_monotone.ensures c.law_tell_place.ensures c.args.kernel.now (seen_of c.take_snapshot.new.seat) c.take_snapshot.new.snapshot
          kernel c.len-length.ensures.in_range (c.take_snapshot.ensures.length ∙ sym s.inside.same_length) (floor_of c.take_snapshot.new.seat) floor c.law_floor.ensures.floor c.if-take_snapshot.ensures.taken;
    }

pub returns-then-take_snapshot : goal.returns-then-take_snapshot
returns-then-take_snapshot c = record {
  length = c.take_snapshot.ensures.length;
  stepped = stepped_more c.args.seat.now c.take_snapshot.new.seat c.tell_all.new.seat c.args.moved.now c.take_snapshot.new.moved c.tell_all.new.moved c.take_snapshot.ensures.stepped c.tell_all.ensures.stepped;
  heard = λ np p. heard_now c.law_local.ensures.tells c.args.kernel.now (seen_of c.args.seat.now) (seen_of c.take_snapshot.new.seat) (seen_of c.tell_all.new.seat) c.take_snapshot.new.snapshot
      c.if-take_snapshot.ensures.taken c.take_snapshot.ensures.stepped.inside c.tell_all.ensures.stepped.inside (c.tell_all.ensures.told np);
}

pub returns-else-take_snapshot : goal.returns-else-take_snapshot
returns-else-take_snapshot c = record {
  length = c.take_snapshot.ensures.length;
  stepped = c.take_snapshot.ensures.stepped;
  heard = λ np p. absurd (c.if-take_snapshot.ensures.crossed p);
}
