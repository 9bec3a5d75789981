use Rattle.std.proofs.Common.{◌∙◌, sym, arith}
use Rattle.narrowing.proofs.Copies.{more_same, all_same, between_put}
use Rattle.narrowing.proofs.lanes.take_bounds.Goals as goal

pub loop-v-preserved : goal.loop-v-preserved
loop-v-preserved c = record {
  stack = c.take_bounds_of.ensures.stack ∙ c.loop-v.invariant.stack;
  same_length = c.take_bounds_of.ensures.same_length ∙ c.loop-v.invariant.same_length;
  copied = more_same c.loop-v.b.current c.take_bounds_of.new.b.current c.args.other.now c.loop-v.v
      (omega (arith, c.requires, c.len-v-end.ensures.value, c.loop-v.invariant.same_length, c.loop-v-test.true))
      c.in_ok-take_bounds_of.ensures.current c.loop-v.invariant.copied;
  between = λ h. between_put c.args.other.now c.loop-v.b.current c.take_bounds_of.new.b.current c.args.b.now.current c.loop-v.v
      (omega (arith, c.requires, c.len-v-end.ensures.value, c.loop-v.invariant.same_length, c.loop-v-test.true))
      c.take_bounds_of.ensures.same_length c.in_ok-take_bounds_of.ensures.current h (c.loop-v.invariant.between h);
}

pub returns-clause-current : goal.returns-clause-current
returns-clause-current c =
    all_same c.law_inside_order.ensures c.loop-v.b.current c.args.other.now (c.loop-v.invariant.same_length ∙ sym c.requires)
    (λ w h. c.loop-v.invariant.copied w (omega (arith, c.len-v-end.ensures.value, c.loop-v-test.false)))
