use Rattle.std.proofs.Common.{◌≡◌, ◌++◌, ◌+◌, ◌*◌, ◌∙◌, ℕ, refl, sym, ap, subst, arith, append-nil}
use Rattle.std.specs.Prelude.{flat_map}
use Rattle.std.specs.List.{range_with_len}
use Rattle.made_model.specs.Made.{order, order_line}
use Rattle.made_model.proofs.MadeLaws.{draw_first, next_orders, one_more, order_is}
use Rattle.made_model.proofs.text.push_orders.Goals as goal

pub loop-init : goal.loop-init
loop-init c = record {
  lines = sym (append-nil c.args.text.now.items);
  last = c.new-draws.ensures ∙ sym (draw_first c.args.n);
  bound = let few = c.requires.1 in let is = c.new-draws.ensures in omega arith;
}

pub loop-preserved : goal.loop-preserved
loop-preserved c =
    let lines = c.loop.invariant.lines in
    let drawn = c.next_order.ensures.order ∙ order_is c.args.n c.loop.counter c.loop.draws.last c.loop.invariant.last in
    record {
      lines = one_more (λ j. order_line (order c.args.n j)) 0 c.loop.counter c.loop.counter c.args.text.now.items c.loop.text.items c.push_order.new.text.items
          lines (c.in_ok-push_order.ensures ∙ ap (λ o. c.loop.text.items ++ order_line o) drawn) (omega arith);
      last = c.next_order.ensures.last ∙ next_orders c.args.n c.loop.counter c.loop.draws.last c.loop.invariant.last;
      bound = c.next_order.ensures.bound;
    }

pub returns : goal.returns
returns c =
    let all : c.loop.counter ≡ 4 * c.args.n = let end = c.loop.auto.counter-end in let test = c.loop-test.false in omega arith in
    subst (λ k. c.loop.text.items ≡ c.args.text.now.items ++ flat_map (λ j. order_line (order c.args.n j)) (range_with_len 0 k)) all c.loop.invariant.lines
