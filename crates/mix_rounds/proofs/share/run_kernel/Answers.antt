use Rattle.std.proofs.Common.{◌≡◌, ℕ, length, sym, refl, subst, ◌∙◌}
use Rattle.std.specs.Prelude.{IfSome}
use Rattle.guarded_tell.specs.Kernels.{IsKernel}
use Rattle.mix_store.specs.Seats.{seen_of, floor_of}
use Rattle.mix_rounds.specs.Lanes.{IsLawfulFloorFor}
use Rattle.mix_rounds.proofs.Hearing.{snapshot_proper, may_tell_all, may_drop_all, heard_now}
use Rattle.mix_rounds.proofs.Stepping.{stepped_more, seat_of_same}
use Rattle.mix_rounds.proofs.share.run_kernel.Goals as goal

pub tell_and_drop-requires : goal.tell_and_drop-requires
tell_and_drop-requires c =
    let s = c.take_snapshot.ensures.stepped in
    let size = c.take_snapshot.ensures.length in
    let same_mix : length c.take_snapshot.new.cache.mix ≡ length (seen_of c.take_snapshot.new.seat) = size.mix ∙ sym s.inside.same_length in
    let same_box : length c.take_snapshot.new.cache.bounds ≡ length (seen_of c.take_snapshot.new.seat) = size.bounds ∙ sym s.inside.same_length in
    let kernel : IsKernel (length (seen_of c.take_snapshot.new.seat)) c.args.kernel.now = subst (λ (n : ℕ). IsKernel n c.args.kernel.now) (sym s.inside.same_length) c.requires.kernel in
    let floor : IfSome (floor_of c.take_snapshot.new.seat) (IsLawfulFloorFor c.args.kernel.now) = subst (λ f. IfSome f (IsLawfulFloorFor c.args.kernel.now)) (sym s.same.floor) c.requires.floor in
    let snap = c.if-take_snapshot.ensures.taken in
    record {
      store = seat_of_same c.args.store.now c.args.store.now c.args.seat.now c.take_snapshot.new.seat c.requires.store s.same refl;
      kernel = subst (λ (n : ℕ). IsKernel n c.args.kernel.now) (sym size.bounds) c.requires.kernel;
      mix_kernel = subst (λ (n : ℕ). IsKernel n c.args.kernel.now) (sym size.mix) c.requires.kernel;
      proper = snap.proper;
      mix_proper = snapshot_proper _ _ c.take_snapshot.new.cache.mix c.take_snapshot.new.cache.bounds snap;
      tells = may_tell_all c.law_monotone.ensures c.law_tell_place.ensures c.law_hull_inside.ensures.inside c.law_hull.ensures.within c.law_drop.ensures c.law_drop_place.ensures c.args.kernel.now
          (seen_of c.take_snapshot.new.seat) c.take_snapshot.new.cache.mix c.take_snapshot.new.cache.bounds kernel same_mix same_box c.len-length.ensures.in_range c.len-bounds.ensures.in_range snap
          (floor_of c.take_snapshot.new.seat) floor c.law_floor.ensures;
      drops = may_drop_all c.law_monotone.ensures c.law_tell_place.ensures c.law_hull_inside.ensures.inside c.law_hull.ensures.within c.law_drop.ensures c.law_drop_place.ensures c.args.kernel.now
          (seen_of c.take_snapshot.new.seat) c.take_snapshot.new.cache.mix c.take_snapshot.new.cache.bounds kernel same_mix same_box c.len-length.ensures.in_range c.len-bounds.ensures.in_range snap
          (floor_of c.take_snapshot.new.seat) floor c.law_floor.ensures;
    }

pub returns-then-take_snapshot : goal.returns-then-take_snapshot
returns-then-take_snapshot c =
    let s = c.take_snapshot.ensures.stepped in
    let size = c.take_snapshot.ensures.length in
    record {
      length = size;
      stepped = stepped_more c.args.seat.now c.take_snapshot.new.seat c.tell_and_drop.new.seat c.args.moved.now c.take_snapshot.new.moved c.tell_and_drop.new.moved s c.tell_and_drop.ensures.stepped;
      heard = λ p. heard_now c.law_local.ensures.tells c.law_drop_local.ensures c.args.kernel.now (seen_of c.args.seat.now) (seen_of c.take_snapshot.new.seat) (seen_of c.tell_and_drop.new.seat)
          c.take_snapshot.new.cache.mix c.take_snapshot.new.cache.bounds (subst (λ (n : ℕ). IsKernel n c.args.kernel.now) (sym s.inside.same_length) c.requires.kernel) (size.mix ∙ sym s.inside.same_length)
          c.if-take_snapshot.ensures.taken s.inside c.tell_and_drop.ensures.stepped.inside c.tell_and_drop.ensures.kept c.tell_and_drop.ensures.gone;
    }

pub returns-else-take_snapshot : goal.returns-else-take_snapshot
returns-else-take_snapshot c = record {
  length = c.take_snapshot.ensures.length;
  stepped = c.take_snapshot.ensures.stepped;
  heard = λ p. absurd (c.if-take_snapshot.ensures.crossed p);
}
