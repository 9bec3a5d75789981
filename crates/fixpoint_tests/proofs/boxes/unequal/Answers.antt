use Rattle.std.proofs.Common.{◌∙◌, w64, arith}
use Rattle.std.proofs.lemmas.Int.{to_z-of_z}
use Rattle.fixpoint_tests.proofs.SmallSums.{equation_made}
use Rattle.fixpoint_tests.proofs.boxes.unequal.Goals as goal

pub returns : goal.returns
returns c = equation_made _ c.args.coeffs.now c.from_list.result c.args.vars.now c.from_list-2.result c.args.limit _
    (c.from_list.ensures ∙ c.in_ok-numbers.ensures ∙ c.in_ok-from_slice.ensures.items)
    (c.from_list-2.ensures ∙ c.in_ok-variables.ensures ∙ c.in_ok-from_slice-2.ensures.items)
    (to_z-of_z w64 c.args.limit c.ranges.limit) (omega arith) c.requires.coeffs c.requires.vars c.requires.same_length c.requires.short c.requires.limit
