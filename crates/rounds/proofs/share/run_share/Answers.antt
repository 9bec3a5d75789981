use Rattle.std.proofs.Common.{◌≡◌, ◌+◌, ◌-◌, ◌^◌, ℕ, false, length, min, arith, sym, refl, subst, ◌∙◌}
use Rattle.std.proofs.lemmas.Bool.{OnFalse_from}
use Rattle.guarded_tell.specs.Kernels.{IsKernel, IsClosedUnder}
use Rattle.std.specs.Prelude.{IfSome}
use Rattle.lattice_store.specs.Seats.{seen_of, floor_of, IsPast}
use Rattle.rounds.specs.Shares.{AllNamed, IsQuiet, WasHeard}
use Rattle.rounds.proofs.Quietness.{holds_here, heard_more, heard_from, share_holds, quiet_of, named_at_floor}
use Rattle.rounds.proofs.Stepping.{stepped_none, stepped_more, unmoved, newly_moved}
use Rattle.rounds.proofs.TellingAll.{seat_of_same}
use Rattle.rounds.proofs.share.run_share.Goals as goal

pub loop-j-init : goal.loop-j-init
loop-j-init g c = record {
  stepped = stepped_none c.args.seat.now false;
  length_is = c.requires.snapshot;
  lane = refl;
  turn = omega arith;
  heard = λ np i h. absurd (omega arith);
}

pub run_kernel-requires : goal.run_kernel-requires
run_kernel-requires g c =
    let s = c.loop-j.invariant.stepped in
    let inside = c.requires.share c.loop-j.j-index 0 (omega arith) in
    record {
      store = seat_of_same c.args.store.now c.args.store.now c.args.seat.now c.loop-j.seat c.requires.store s.same refl;
      kernel = subst (λ (n : ℕ). IsKernel n c.index-kernels-j.result) (sym s.inside.same_length)
          (subst (λ k. IsKernel (length (seen_of c.args.seat.now)) k) (sym c.index-kernels-j.is) (c.requires.kernels _ c.index-kernels-j.result inside));
      length = c.loop-j.invariant.length_is ∙ sym s.inside.same_length;
      floor = subst (λ f. IfSome f (IsClosedUnder c.index-kernels-j.result)) (sym s.same.floor)
          (named_at_floor (floor_of c.args.seat.now) c.args.share.now c.args.kernels.now c.requires.floor c.loop-j.j-index c.index-kernels-j.result (omega arith) inside c.index-kernels-j.is);
    }

pub loop-j-preserved : goal.loop-j-preserved
loop-j-preserved g c = record {
  stepped = stepped_more c.args.seat.now c.loop-j.seat c.run_kernel.new.seat false c.loop-j.moved c.run_kernel.new.moved c.loop-j.invariant.stepped c.run_kernel.ensures.stepped;
  length_is = c.run_kernel.ensures.length ∙ c.loop-j.invariant.stepped.inside.same_length;
  lane = c.loop-j.invariant.lane;
  turn = omega (arith, c.loop-j.invariant.turn, c.saturating_add-cache.ensures);
  heard = λ np.
      let before = c.loop-j.invariant.stepped.inside in
      let inside = c.run_kernel.ensures.stepped.inside in
      heard_more c.law_tell_place.ensures (seen_of c.args.seat.now) (seen_of c.loop-j.seat) (seen_of c.run_kernel.new.seat) c.args.share.now c.args.kernels.now c.loop-j.j-index c.requires.kernels before inside
      (c.loop-j.invariant.heard (λ q. np (c.run_kernel.ensures.stepped.same.past q)))
      (holds_here (WasHeard (seen_of c.args.seat.now) (seen_of c.run_kernel.new.seat)) c.args.kernels.now _ c.index-kernels-j.result c.index-kernels-j.is
      (heard_from c.index-kernels-j.result (seen_of c.args.seat.now) (seen_of c.loop-j.seat) (seen_of c.run_kernel.new.seat) before (c.run_kernel.ensures.heard np)));
}

pub returns-clause-still : goal.returns-clause-still
returns-clause-still g c = unmoved c.args.seat.now c.loop-j.seat c.loop-j.moved c.loop-j.invariant.stepped

pub returns-clause-moved : goal.returns-clause-moved
returns-clause-moved g c = newly_moved c.args.seat.now c.loop-j.seat c.loop-j.moved c.loop-j.invariant.stepped

pub returns-clause-heard : goal.returns-clause-heard
returns-clause-heard g c = λ np.
    share_holds (WasHeard (seen_of c.args.seat.now) (seen_of c.loop-j.seat)) c.args.share.now c.args.kernels.now c.loop-j.j-index (omega arith) (c.loop-j.invariant.heard np)

pub returns-clause-quiet : goal.returns-clause-quiet
returns-clause-quiet g c =
    let heard : (¬ IsPast c.loop-j.seat) → AllNamed (WasHeard (seen_of c.args.seat.now) (seen_of c.loop-j.seat)) c.args.share.now c.args.kernels.now =
    λ np. share_holds (WasHeard (seen_of c.args.seat.now) (seen_of c.loop-j.seat)) c.args.share.now c.args.kernels.now c.loop-j.j-index (omega arith) (c.loop-j.invariant.heard np) in
    let quiet : c.loop-j.moved ≡ false → (¬ IsPast c.loop-j.seat) → AllNamed (IsQuiet (seen_of c.loop-j.seat)) c.args.share.now c.args.kernels.now =
    λ f np j k s lt e. quiet_of k (seen_of c.args.seat.now) (seen_of c.loop-j.seat) (c.loop-j.invariant.stepped.still f).1 (heard np j k s lt e) in
    OnFalse_from _ _ quiet

pub returns-clause-same : goal.returns-clause-same
returns-clause-same g c = c.loop-j.invariant.stepped.same

pub returns-clause-inside : goal.returns-clause-inside
returns-clause-inside g c = c.loop-j.invariant.stepped.inside

pub returns-clause-lane : goal.returns-clause-lane
returns-clause-lane g c = c.loop-j.invariant.lane

pub returns-clause-turn : goal.returns-clause-turn
returns-clause-turn g c =
    let all : c.loop-j.j-index ≡ length c.args.share.now = omega arith in
    subst (λ n. c.loop-j.cache.turn ≡ min (c.args.cache.now.turn + n) (2 ^ 64 - 1)) all c.loop-j.invariant.turn

pub returns-clause-snapshot : goal.returns-clause-snapshot
returns-clause-snapshot g c = c.loop-j.invariant.length_is
