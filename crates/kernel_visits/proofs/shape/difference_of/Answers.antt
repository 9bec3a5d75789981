-- The lists have two items each.
use Rattle.std.proofs.Common.{pos, get_or, arith}
use Rattle.std.proofs.lemmas.List.{get_or_default}
use Rattle.kernel_visits.proofs.ShapeLaws.{two_items, says_signs, coefficient_read}
use Rattle.kernel_visits.proofs.shape.difference_of.Goals as goal

pub returns-then-coeffs-eq2 : goal.returns-then-coeffs-eq2
returns-then-coeffs-eq2 c =
    let cs = c.args.coeffs.now in
    let vs = c.args.vars.now in
    says_signs cs vs _ _ _ _ c.difference_by_signs.result
    (two_items cs _ _ c.if-coeffs-eq2.true (coefficient_read cs vs (pos 0) 0 c.requires (omega arith)) (coefficient_read cs vs (pos 0) 1 c.requires (omega arith)))
    (two_items vs _ _ (omega (arith, c.requires.same_length)) (get_or_default vs 0 0 (get_or vs 0 0) (omega (arith, c.requires.same_length))) (get_or_default vs 1 0 (get_or vs 1 0) (omega (arith, c.requires.same_length)))) c.difference_by_signs.ensures
