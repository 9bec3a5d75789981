-- All pairs have their domain.
use Rattle.std.proofs.Common.{◌≡◌, ◌∙◌, sym, ap, subst, [], ◌∷◌, ◌++◌, pos, length, arith, ◌<◌, ◌≤◌}
use Rattle.std.proofs.lemmas.List.{map_more, take_all}
use Rattle.interval.specs.Boxes.{low_of, high_of}
use Rattle.bit_domain.specs.Mixes.{dom_between, mix_of, IsMixInRange}
use Rattle.bit_domain.proofs.DomLaws.{coded, mix_in_range}
use Rattle.bit_domain.proofs.mix.doms_of.Goals as goal

pub returns-clause-value : goal.returns-clause-value
returns-clause-value c =
    let all : length c.args.b.now ≤ c.loop-v.v = (let e = c.len-v-end.ensures.value in let t = c.loop-v-test.false in omega arith) in
    c.loop-v.invariant ∙ ap mix_of (take_all c.loop-v.v c.args.b.now all)

pub returns-clause-in_range : goal.returns-clause-in_range
returns-clause-in_range c = subst IsMixInRange (sym (returns-clause-value c)) (mix_in_range c.args.b.now c.len-v-end.ensures.in_range)

pub loop-v-preserved : goal.loop-v-preserved
loop-v-preserved c =
    let b = c.args.b.now in
    let v = c.loop-v.v in
    let inside : v < length b = (let e = c.len-v-end.ensures.value in let t = c.loop-v-test.true in omega arith) in
    let low = coded c.low.result c.low.ensures.in_range ∙ c.low.ensures.value in
    let high = coded c.high.result c.high.ensures.in_range ∙ c.high.ensures.value in
    let dom : c.between.result ≡ dom_between (low_of b v) (high_of b v) = c.between.ensures ∙ (λ i. dom_between (low i) (high i)) in
    c.in_ok-push.ensures.items ∙ (λ i. c.loop-v.invariant i ++ dom i ∷ []) ∙ sym (map_more (λ p. dom_between p.0 p.1) b v (pos 0, pos 0) inside)
