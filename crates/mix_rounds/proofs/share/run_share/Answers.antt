use Rattle.std.proofs.Common.{ℕ, false, length, get_or, arith, sym, refl, subst, ◌∙◌}
use Rattle.std.specs.Prelude.{IfSome}
use borrow.Author.Count.{below_more}
use Rattle.guarded_tell.specs.Kernels.{IsKernel}
use Rattle.mix_store.specs.Seats.{seen_of, floor_of}
use Rattle.mix_rounds.specs.Heard.{WasHeard}
use Rattle.mix_rounds.specs.Lanes.{FitsLength, IsLawfulFloorFor}
use Rattle.mix_rounds.proofs.Hearing.{heard_later, heard_from}
use Rattle.mix_rounds.proofs.Naming.{some_all, HoldsAt, holds_here, share_holds}
use Rattle.mix_rounds.proofs.Stepping.{stepped_none, stepped_more, unmoved, newly_moved, seat_of_same}
use Rattle.mix_rounds.proofs.share.run_share.Goals as goal

pub loop-j-init : goal.loop-j-init
loop-j-init g c = record {
  stepped = stepped_none c.args.seat.now false;
  fits = c.requires.length;
  heard = λ i h. absurd (omega arith);
}

pub run_kernel-requires : goal.run_kernel-requires
run_kernel-requires g c =
    let s = c.loop-j.invariant.stepped in
    let inside = c.requires.share c.loop-j.j-index 0 (omega arith) in
    record {
      store = seat_of_same c.args.store.now c.args.store.now c.args.seat.now c.loop-j.seat c.requires.store s.same refl;
      kernel = subst (λ (n : ℕ). IsKernel n c.index-kernels-j.result) (sym s.inside.same_length)
          (subst (λ k. IsKernel (length (seen_of c.args.seat.now)) k) (sym c.index-kernels-j.is) (c.requires.kernels _ c.index-kernels-j.result inside));
      length = record { mix = c.loop-j.invariant.fits.mix ∙ sym s.inside.same_length; bounds = c.loop-j.invariant.fits.bounds ∙ sym s.inside.same_length };
      floor = subst (λ f. IfSome f (IsLawfulFloorFor c.index-kernels-j.result)) (sym s.same.floor)
          (subst (λ k. IfSome (floor_of c.args.seat.now) (IsLawfulFloorFor k)) (sym c.index-kernels-j.is) (some_all IsLawfulFloorFor (floor_of c.args.seat.now) c.args.kernels.now c.requires.floor (get_or c.args.share.now c.loop-j.j-index 0) c.index-kernels-j.result inside));
    }

pub loop-j-preserved : goal.loop-j-preserved
loop-j-preserved g c =
    let before = c.loop-j.invariant.stepped.inside in
    let later = c.run_kernel.ensures.stepped.inside in
    record {
      stepped = stepped_more c.args.seat.now c.loop-j.seat c.run_kernel.new.seat false c.loop-j.moved c.run_kernel.new.moved c.loop-j.invariant.stepped c.run_kernel.ensures.stepped;
      fits = subst (λ (n : ℕ). FitsLength n c.run_kernel.new.cache) before.same_length c.run_kernel.ensures.length;
      heard = below_more (λ n. HoldsAt (WasHeard (seen_of c.args.seat.now) (seen_of c.run_kernel.new.seat)) c.args.kernels.now (get_or c.args.share.now n 0)) c.loop-j.j-index
          (λ n h k lt e. heard_later k (seen_of c.args.seat.now) (seen_of c.loop-j.seat) (seen_of c.run_kernel.new.seat) later (c.loop-j.invariant.heard n h k lt e))
          (holds_here (WasHeard (seen_of c.args.seat.now) (seen_of c.run_kernel.new.seat)) c.args.kernels.now _ c.index-kernels-j.result c.index-kernels-j.is
          (heard_from c.index-kernels-j.result (seen_of c.args.seat.now) (seen_of c.loop-j.seat) (seen_of c.run_kernel.new.seat) before c.run_kernel.ensures.heard));
    }

pub returns : goal.returns
returns g c = record {
  same = c.loop-j.invariant.stepped.same;
  inside = c.loop-j.invariant.stepped.inside;
  still = unmoved c.args.seat.now c.loop-j.seat c.loop-j.moved c.loop-j.invariant.stepped;
  moved = newly_moved c.args.seat.now c.loop-j.seat c.loop-j.moved c.loop-j.invariant.stepped;
  heard = share_holds (WasHeard (seen_of c.args.seat.now) (seen_of c.loop-j.seat)) c.args.share.now c.args.kernels.now c.loop-j.j-index (omega arith) c.loop-j.invariant.heard;
  length = c.loop-j.invariant.fits;
}
