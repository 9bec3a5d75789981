use Rattle.std.proofs.Common.{◌∙◌, w64, arith}
use Rattle.std.proofs.lemmas.Int.{to_z-of_z}
use Rattle.learning_tests.proofs.SmallSums.{sum_made}
use Rattle.learning_tests.proofs.boxes.at_most.Goals as goal

pub returns : goal.returns
returns c = sum_made _ c.args.coeffs.now c.in_ok-numbers.numbers c.args.vars.now c.in_ok-variables.variables c.args.limit _
    (c.in_ok-numbers.ensures ∙ c.in_ok-from_slice.ensures.items) (c.in_ok-variables.ensures ∙ c.in_ok-from_slice-2.ensures.items)
    (to_z-of_z w64 c.args.limit c.ranges.limit) (omega arith) c.requires.coeffs c.requires.vars c.requires.same_length c.requires.short c.requires.limit
