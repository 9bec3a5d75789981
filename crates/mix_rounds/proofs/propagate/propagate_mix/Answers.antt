use Rattle.std.proofs.Common.{length, refl, sym, subst, arith}
use Rattle.std.specs.Prelude.{IfSome}
use Rattle.std.specs.List.{All}
use Rattle.shared_lanes.specs.Cuts.{share_limit}
use Rattle.guarded_tell.specs.Kernels.{IsKernel}
use Rattle.bit_domain.specs.Mixes.{Mix}
use Rattle.mix_rounds.specs.Greatest.{greatest_mix_of}
use Rattle.mix_rounds.specs.Lanes.{IsLawfulFloor}
use Rattle.mix_rounds.proofs.Ending.{failed_at_once, floor_lawful, floor_inside}
use Rattle.mix_rounds.proofs.propagate.propagate_mix.Goals as goal

pub returns-then-is_crossed_mix : goal.returns-then-is_crossed_mix
returns-then-is_crossed_mix g c = failed_at_once c.law_inside_mix_order.ensures c.args.kernels.now c.args.start.now c.is_crossed_mix.ensures.in_range (c.if-is_crossed_mix.ensures.crossed.0 refl)

pub overflow_cast-cut : goal.overflow_cast-cut
unfolding share_limit
overflow_cast-cut g c = let h = c.requires.cut.short in record { fits = omega arith }

pub make_for-requires : goal.make_for-requires
make_for-requires g c = floor_inside c.args.kernels.now c.args.start.now (greatest_mix_of c.args.start.now c.args.kernels.now) (c.law_greatest_mix_is_computed.ensures c.args.start.now c.args.kernels.now c.is_crossed_mix.ensures.in_range c.requires.kernels)

pub settle-requires-clause-begins : goal.settle-requires-clause-begins
settle-requires-clause-begins g c = λ ks b.
    let answer = c.law_greatest_mix_is_computed.ensures c.args.start.now c.args.kernels.now c.is_crossed_mix.ensures.in_range c.requires.kernels in
    record {
      of_store = c.in_ok-store.ensures.store_is;
      kernels_are = subst (λ (m : Mix). All (IsKernel (length m)) c.args.kernels.now) (sym c.in_ok-store.ensures.seen) c.requires.kernels;
      cut_is = c.requires.cut;
      held = subst (λ f. IfSome f (IsLawfulFloor c.args.kernels.now)) (sym c.in_ok-store.ensures.floor_is)
          (floor_lawful c.law_inside_mix_order.ensures c.args.kernels.now c.args.start.now (greatest_mix_of c.args.start.now c.args.kernels.now) c.is_crossed_mix.ensures.in_range answer);
    }
