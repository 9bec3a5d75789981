use Rattle.std.proofs.Common.{◌≡◌, ◌<◌, ◌*◌, ◌++◌}
use Rattle.std.specs.Prelude.{flat_map}
use Rattle.std.specs.List.{range_with_len}
use Rattle.made_model.specs.Made.{draw, order, order_line}
use Rattle.made_model.proofs.text.push_orders.Given as goal

-- the orders so far, and the draw before the next
abbrev pub invariant-loop : goal.invariant-loop
invariant-loop l = record {
  lines : l.text.items ≡ l.initial.text.items ++ flat_map (λ j. order_line (order l.n j)) (range_with_len 0 l.counter);
  last : l.draws.last ≡ draw l.n (3 * l.counter);
  bound : l.draws.last < 65537;
}
