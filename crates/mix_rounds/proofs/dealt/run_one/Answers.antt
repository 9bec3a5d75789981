use Rattle.std.proofs.Common.{◌≡◌, ℕ, length, ap, subst, sym, ◌∙◌}
use Rattle.std.specs.Prelude.{Vec}
use Rattle.std.specs.declared.alloc.Global.{Global}
use Rattle.shared_lanes.specs.Cuts.{IsShare, share_at}
use Rattle.mix_rounds.specs.Lanes.{FitsLength}
use Rattle.mix_rounds.proofs.Naming.{share_is}
use Rattle.mix_rounds.proofs.Taking.{kernels_given, floor_given, run_now}
use Rattle.mix_rounds.proofs.dealt.run_one.Goals as goal

pub run_share-requires : goal.run_share-requires
run_share-requires g c = record {
  store = c.requires.lane.1.of_store;
  kernels = kernels_given c.args.dealt.now c.requires.lane.0 c.args.seat.now c.requires.lane.1;
  share = subst (IsShare (length c.args.dealt.now.kernels.now)) (share_is c.args.dealt.now.cut.now c.args.i c.index-dealt-i.result c.deref.result.now c.requires.index c.index-dealt-i.is (c.deref.ensures.value ∙ ap (λ (v : Vec ℕ Global). v.items) (sym c.index-dealt-i.is)))
      (c.requires.lane.1.begins.cut_is.in_range c.args.i c.requires.index);
  length = subst (λ m. FitsLength (length m) c.args.cache.now) (sym c.requires.lane.1.seen) c.requires.lane.2;
  floor = floor_given c.args.dealt.now c.requires.lane.0 c.args.seat.now c.requires.lane.1;
}

pub returns : goal.returns
returns g c = λ first given fits.
    let shared : share_at c.args.dealt.now.cut.now c.args.i ≡ c.deref.result.now = share_is c.args.dealt.now.cut.now c.args.i c.index-dealt-i.result c.deref.result.now c.requires.index c.index-dealt-i.is (c.deref.ensures.value ∙ ap (λ (v : Vec ℕ Global). v.items) (sym c.index-dealt-i.is)) in (
      run_now c.args.dealt.now first c.args.i c.args.seat.now c.run_share.new.seat c.run_share.result c.deref.result.now given shared
          c.run_share.ensures.same c.run_share.ensures.inside c.run_share.ensures.still c.run_share.ensures.moved c.run_share.ensures.heard,
      subst (λ m. FitsLength (length m) c.run_share.new.cache) given.seen c.run_share.ensures.length,
    )
