use Rattle.std.proofs.Common.{◌+◌, ◌^◌, ◌<◌, ℕ, length, get_or, ap, sym, refl, subst, ◌∙◌, arith}
use Rattle.interval.specs.Boxes.{IsProper, IsCrossed}
use Rattle.bit_domain.specs.Mixes.{Mix, hull, IsMixInRange}
use Rattle.domain_drops.specs.Closed.{weight_of}
use Rattle.mix_store.specs.Seats.{seen_of, floor_of}
use Rattle.mix_rounds.specs.Ends.{IsRound, HasFixedMix}
use Rattle.mix_rounds.specs.Lanes.{FitsLength, AreTaken}
use Rattle.mix_rounds.proofs.Ending.{IsAnswer, weight_fits, goes_first, fixed, failed, narrower, goes_on}
use Rattle.mix_rounds.proofs.Taking.{taken_none, round_taken, begins_later}
use Rattle.mix_rounds.proofs.propagate.settle.Goals as goal

pub rounds-init : goal.rounds-init
rounds-init g c = record {
  begins = c.requires.begins;
  floor = c.requires.floor;
  lengths = c.requires.lengths;
  into_length = refl;
  goes = goes_first c.args.dealt.now.kernels.now c.args.into.now (seen_of c.args.first.now) c.requires.seen c.requires.proper;
}

pub overflow_add-rounds : goal.overflow_add-rounds
overflow_add-rounds g c =
    let fits : weight_of c.args.into.now < 2 ^ 100 = weight_fits c.args.into.now (c.law_weight.ensures.bounded c.args.into.now c.len-length.ensures.in_range) in
    grind (arith, c.rounds.invariant.goes.weights)

pub run_dealt-requires-clause-some : goal.run_dealt-requires-clause-some
run_dealt-requires-clause-some g c = λ ks b. (let one = c.rounds.invariant.begins.cut_is.some in omega (arith, c.requires.count, c.rounds.auto.lanes))

pub run_dealt-requires-clause-count : goal.run_dealt-requires-clause-count
run_dealt-requires-clause-count g c = λ ks b. c.requires.count ∙ sym c.rounds.auto.lanes

pub run_dealt-requires-clause-begins : goal.run_dealt-requires-clause-begins
run_dealt-requires-clause-begins g c = λ ks b. taken_none c.args.dealt.now c.rounds.first c.rounds.invariant.begins

pub run_dealt-requires-clause-lengths : goal.run_dealt-requires-clause-lengths
run_dealt-requires-clause-lengths g c = λ ks b i d h. subst (λ (n : ℕ). FitsLength n (get_or c.rounds.lanes i d).cache) (sym c.rounds.invariant.goes.inside.same_length) (c.rounds.invariant.lengths i d h)

pub copy_seen-requires : goal.copy_seen-requires
copy_seen-requires g c = c.rounds.invariant.into_length ∙ sym (c.in_ok-moved.ensures.taken.inside.same_length ∙ c.rounds.invariant.goes.inside.same_length)

pub returns-then-not-moved : goal.returns-then-not-moved
returns-then-not-moved g c =
    let taken : AreTaken c.args.dealt.now c.rounds.first (length c.rounds.lanes) c.run_dealt.new.first c.in_ok-moved.moved = c.in_ok-moved.ensures.taken in
    let round : IsRound c.args.dealt.now.kernels.now (seen_of c.rounds.first) (seen_of c.run_dealt.new.first) c.in_ok-moved.moved = round_taken c.args.dealt.now c.rounds.first (length c.rounds.lanes) c.run_dealt.new.first c.in_ok-moved.moved (c.requires.count ∙ sym c.rounds.auto.lanes) taken in
    let answer : IsAnswer c.args.dealt.now.kernels.now c.args.into.now (floor_of c.rounds.first) = subst (IsAnswer c.args.dealt.now.kernels.now c.args.into.now) (sym c.rounds.invariant.floor)
    (c.law_greatest_mix_is_computed.ensures c.args.into.now c.args.dealt.now.kernels.now c.len-length.ensures.in_range c.requires.kernels) in
    subst (λ (m : Mix). HasFixedMix c.args.dealt.now.kernels.now c.args.into.now m (c.rounds.rounds + 1)) (sym c.copy_seen.ensures)
    (fixed c.law_inside_mix_order.ensures c.args.dealt.now.kernels.now c.args.into.now c.len-length.ensures.in_range c.requires.kernels c.requires.proper (seen_of c.rounds.first) c.rounds.rounds c.rounds.invariant.goes
    c.law_hull.ensures.ends c.law_drop_place.ensures c.law_tell_place.ensures (floor_of c.rounds.first) (seen_of c.run_dealt.new.first) c.in_ok-moved.moved answer c.law_floor.ensures round c.if-not-moved.true)

pub returns-then-is_crossed_mix : goal.returns-then-is_crossed_mix
returns-then-is_crossed_mix g c =
    let taken : AreTaken c.args.dealt.now c.rounds.first (length c.rounds.lanes) c.run_dealt.new.first c.in_ok-moved.moved = c.in_ok-moved.ensures.taken in
    let answer : IsAnswer c.args.dealt.now.kernels.now c.args.into.now (floor_of c.run_dealt.new.first) = subst (IsAnswer c.args.dealt.now.kernels.now c.args.into.now) (sym (taken.same.floor ∙ c.rounds.invariant.floor))
    (c.law_greatest_mix_is_computed.ensures c.args.into.now c.args.dealt.now.kernels.now c.len-length.ensures.in_range c.requires.kernels) in
    failed c.law_inside_mix_order.ensures c.args.dealt.now.kernels.now c.args.into.now c.len-length.ensures.in_range c.requires.kernels c.requires.proper (seen_of c.rounds.first) c.rounds.rounds c.rounds.invariant.goes
    (floor_of c.run_dealt.new.first) (seen_of c.run_dealt.new.first) answer c.law_floor-in-rounds.ensures
    (subst IsMixInRange c.copy_seen.ensures c.is_crossed_mix.ensures.in_range)
    (subst (λ (m : Mix). IsCrossed (hull m)) c.copy_seen.ensures (c.if-is_crossed_mix.ensures.crossed.0 refl))

pub rounds-smaller : goal.rounds-smaller
rounds-smaller g c =
    narrower c.law_inside_mix_order.ensures c.args.dealt.now.kernels.now c.args.into.now c.len-length.ensures.in_range c.requires.kernels c.requires.proper (seen_of c.rounds.first) c.rounds.rounds c.rounds.invariant.goes
    c.law_weight.ensures.lighter (seen_of c.run_dealt.new.first) c.in_ok-moved.moved
    (round_taken c.args.dealt.now c.rounds.first (length c.rounds.lanes) c.run_dealt.new.first c.in_ok-moved.moved (c.requires.count ∙ sym c.rounds.auto.lanes) c.in_ok-moved.ensures.taken)
    c.if-not-moved.false (subst (λ (m : Mix). IsProper (hull m)) c.copy_seen.ensures (c.if-is_crossed_mix.ensures.proper.0 refl))

pub rounds-preserved : goal.rounds-preserved
rounds-preserved g c =
    let taken : AreTaken c.args.dealt.now c.rounds.first (length c.rounds.lanes) c.run_dealt.new.first c.in_ok-moved.moved = c.in_ok-moved.ensures.taken in
    record {
      begins = begins_later c.args.dealt.now c.rounds.first (length c.rounds.lanes) c.run_dealt.new.first c.in_ok-moved.moved taken;
      floor = taken.same.floor ∙ c.rounds.invariant.floor;
      lengths = λ i d h. subst (λ (n : ℕ). FitsLength n (get_or c.run_dealt.new.lanes i d).cache) c.rounds.invariant.goes.inside.same_length (c.run_dealt.ensures.lengths i d h);
      into_length = ap (λ (m : Mix). length m) c.copy_seen.ensures ∙ taken.inside.same_length ∙ c.rounds.invariant.goes.inside.same_length;
      goes = goes_on c.law_inside_mix_order.ensures c.args.dealt.now.kernels.now c.args.into.now c.len-length.ensures.in_range c.requires.kernels c.requires.proper (seen_of c.rounds.first) c.rounds.rounds c.rounds.invariant.goes
          c.law_weight.ensures.lighter (seen_of c.run_dealt.new.first) c.in_ok-moved.moved
          (round_taken c.args.dealt.now c.rounds.first (length c.rounds.lanes) c.run_dealt.new.first c.in_ok-moved.moved (c.requires.count ∙ sym c.rounds.auto.lanes) taken)
          c.if-not-moved.false (subst (λ (m : Mix). IsProper (hull m)) c.copy_seen.ensures (c.if-is_crossed_mix.ensures.proper.0 refl));
    }
