use Rattle.std.proofs.Common.{List, ◌∷◌, [], ◌++◌, sym, ap, ◌∙◌, arith}
use Rattle.std.proofs.lemmas.List.FromFn.{map-range_with_len_more}
use Rattle.tree_cover.specs.declared.part.Part.{Part}
use Rattle.tree_cover.specs.Covers.{part_at}
use Rattle.tree_cutter.proofs.depth.first_parts.Goals as goal

pub loop-number-preserved : goal.loop-number-preserved
loop-number-preserved c =
    c.in_ok-push.ensures.items ∙ (ap (λ (parts : List Part). parts ++ part_at c.args.depth c.loop-number.number ∷ []) c.loop-number.invariant ∙
    sym (map-range_with_len_more (part_at c.args.depth) 0 c.loop-number.number c.loop-number.number (omega arith)))
