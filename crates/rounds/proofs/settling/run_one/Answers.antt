use Rattle.std.proofs.Common.{◌≡◌, ℕ, length, ap, subst, sym, ◌∙◌}
use Rattle.std.specs.Prelude.{Vec}
use Rattle.std.specs.declared.alloc.Global.{Global}
use Rattle.rounds.specs.Shares.{IsShare, share_at}
use Rattle.rounds.proofs.Rounding.{share_is}
use Rattle.rounds.proofs.Taking.{floor_given, run_now}
use Rattle.rounds.proofs.settling.run_one.Goals as goal
use Rattle.rounds.proofs.settling.run_one.Goals.{After-deref}

pub run_share-requires-clause-share : goal.run_share-requires-clause-share
run_share-requires-clause-share g c = subst (IsShare (length c.args.dealt.now.kernels.now)) (share_is c.args.dealt.now.cut.now c.args.i c.index-dealt-i.result c.deref.result.now c.requires.index c.index-dealt-i.is (c.deref.ensures.value ∙ ap (λ (v : Vec ℕ Global). v.items) (sym c.index-dealt-i.is)))
    (c.requires.lane.1.begins.cut_is.in_range c.args.i c.requires.index)

pub run_share-requires-clause-floor : goal.run_share-requires-clause-floor
run_share-requires-clause-floor g c = floor_given c.args.dealt.now c.requires.lane.0 c.args.seat.now c.deref.result.now c.requires.lane.1

pub returns : goal.returns
returns g c = λ first given fits.
    let shared : share_at c.args.dealt.now.cut.now c.args.i ≡ c.deref.result.now = share_is c.args.dealt.now.cut.now c.args.i c.index-dealt-i.result c.deref.result.now c.requires.index c.index-dealt-i.is (c.deref.ensures.value ∙ ap (λ (v : Vec ℕ Global). v.items) (sym c.index-dealt-i.is)) in (
      run_now c.args.dealt.now first c.args.i c.args.seat.now c.run_share.new.seat c.run_share.result c.deref.result.now given shared
          c.run_share.ensures.same c.run_share.ensures.inside c.run_share.ensures.still c.run_share.ensures.moved c.run_share.ensures.heard,
      c.run_share.ensures.snapshot ∙ ap length given.seat.seen,
    )
