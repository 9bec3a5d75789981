use Rattle.std.proofs.Common.{sym, subst, arith}
use Rattle.bit_domain.specs.Mixes.{IsDomInRange}
use Rattle.mix_store.proofs.MixLaws.{tighter_is}
use Rattle.mix_store.proofs.Joining.{lawful_both}
use Rattle.mix_store.proofs.seats.keep_tighter.Goals as goal

pub returns : goal.returns
returns c = tighter_is c.args.seen.now c.args.other.now c.loop-v.seen c.requires c.loop-v.invariant.length_is (λ v h. c.loop-v.invariant.below v (let t = c.loop-v-test.false in let l = c.len-v-end.ensures.value in let r = c.requires in omega arith))

pub put-requires-clause-in_range : goal.put-requires-clause-in_range
put-requires-clause-in_range c = subst IsDomInRange (sym c.tighter-dom.ensures) (lawful_both c.dom-one.result c.dom.result c.dom-one.ensures.in_range c.dom.ensures.in_range)
