use Rattle.std.proofs.Common.{codes}
use Rattle.std.proofs.lemmas.Result.{on_ok_weaker}
use Rattle.std.specs.Fmt.{decimal}
use Rattle.made_model.specs.Made.{line_end, pair_text}
use Rattle.made_model.proofs.MadeLaws.{added_on_ok, five_added}
use Rattle.made_model.proofs.text.push_order.Goals as goal

pub returns : goal.returns
returns c =
    on_ok_weaker c.extend_from_slice-3.result
    (λ last. five_added c.args.text.now.items (codes "constraint int_lin_le([1,-1],[") (pair_text c.args.order) (codes "],-") (decimal c.args.order.gap) (codes ");") line_end
    _ _ _ _ _ c.in_ok-extend_from_slice.ensures.items c.in_ok-push_pair.ensures c.in_ok-extend_from_slice-2.ensures.items
    c.in_ok-push_number.ensures last)
    (added_on_ok c.extend_from_slice-3.result c.extend_from_slice-3.new.self.items _ _ c.extend_from_slice-3.ensures.items)
