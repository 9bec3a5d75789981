use Rattle.std.proofs.Common.{◌≡◌, ◌⊎◌, ◌<◌, length, ◌∙◌, inl, inr, arith}
use Rattle.std.proofs.lemmas.Int.{ints}
use Rattle.interval.specs.Boxes.{IsInside, low_of, high_of, put_of}
use Rattle.free_search.proofs.MeetLaws.{cut_inside, cut_holds, cut_second, as_put}
use Rattle.free_search.proofs.boxes.meet.Goals as goal

pub loop-v-preserved : goal.loop-v-preserved
loop-v-preserved c =
    let met = c.loop-v.met in
    let next = c.put.new.self in
    let second = c.args.second.now in
    let v = c.loop-v.v in
    let low = c.greater-low.result in
    let high = c.lesser-high.result in
    let first_count = c.loop-v.invariant.in_first.same_length in
    let count = c.requires in
    let lt : v < length met = omega arith in
    let within : v < length second = omega arith in
    let is_next : next ≡ put_of met v low high = as_put met next v low high _ _ c.put.ensures (omega (arith, ints)) (omega (arith, ints)) in
    let inside : IsInside next met = cut_inside c.law_tightens_one.ensures met next v low high is_next lt (omega (arith, ints)) (omega (arith, ints)) in
    let low_one : (low ≡ low_of met v) ⊎ (low ≡ low_of second v) =
    elim c.greater-low.ensures.one [ inl e ↦ inl (omega (arith, ints, e)) | inr e ↦ inr (omega (arith, ints, e)) ] in
    let high_one : (high ≡ high_of met v) ⊎ (high ≡ high_of second v) =
    elim c.lesser-high.ensures.one [ inl e ↦ inl (omega (arith, ints, e)) | inr e ↦ inr (omega (arith, ints, e)) ] in
    record {
      in_first = c.law_inside_order.ensures.through next met c.args.first.now inside c.loop-v.invariant.in_first;
      in_second = cut_second c.law_tightens_one.ensures met next v low high is_next lt second inside (omega (arith, ints)) (omega (arith, ints)) c.loop-v.invariant.in_second;
      holds = λ b f s. cut_holds c.law_tightens_one.ensures met next v low high is_next lt second b low_one high_one (c.loop-v.invariant.holds b f s)
          (s.lows v within, s.highs v within);
    }

pub returns : goal.returns
returns c =
    let count = c.len-v-end.ensures.value in
    record {
      in_first = c.loop-v.invariant.in_first;
      in_second = record {
        same_length = c.loop-v.invariant.in_first.same_length ∙ c.requires;
        lows = λ v h. (c.loop-v.invariant.in_second v (omega arith)).0;
        highs = λ v h. (c.loop-v.invariant.in_second v (omega arith)).1;
      };
      holds = c.loop-v.invariant.holds;
    }
