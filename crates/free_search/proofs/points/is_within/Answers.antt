use Rattle.std.proofs.Common.{ℕ, ◌≤ℤ◌, arith, sym, ◌∙◌}
use Rattle.std.proofs.lemmas.Int.{ints}
use Rattle.interval.specs.Boxes.{low_of, high_of}
use Rattle.free_search.proofs.FreeLaws.{one_more}
use Rattle.free_search.proofs.points.is_within.Goals as goal

pub loop-v-preserved : goal.loop-v-preserved
loop-v-preserved c = one_more (λ (i : ℕ). (low_of c.args.outer.now i ≤ℤ low_of c.args.b.now i) × (high_of c.args.b.now i ≤ℤ high_of c.args.outer.now i))
    c.loop-v.v c.loop-v.invariant (omega (arith, ints), omega (arith, ints))

pub returns : goal.returns
returns c = record {
  same_length = sym c.len.ensures.value ∙ c.if-len.false ∙ c.len-2.ensures.value;
  lows = λ v h. (c.loop-v.invariant v (omega arith)).0;
  highs = λ v h. (c.loop-v.invariant v (omega arith)).1;
}
