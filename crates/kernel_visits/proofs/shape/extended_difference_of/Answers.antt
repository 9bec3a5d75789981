-- Each list has one item before its last one.
use Rattle.std.proofs.Common.{pos, get_or, arith}
use Rattle.std.proofs.lemmas.List.{get_or_default}
use Rattle.kernel_visits.proofs.ShapeLaws.{item_and_last, says_signs, coefficients_read}
use Rattle.kernel_visits.proofs.shape.extended_difference_of.Goals as goal

pub returns-then-vars-eq1 : goal.returns-then-vars-eq1
returns-then-vars-eq1 c =
    let cs = c.args.coeffs.now in
    let vs = c.args.vars.now in
    let front = c.in_ok-coeffs.coeffs.now in
    let before = c.in_ok-vars.vars.now in
    says_signs cs vs _ _ _ _ c.difference_by_signs.result
    (coefficients_read cs front vs c.in_ok-coeffs.last_coeff (pos 0) c.requires c.in_ok-coeffs.ensures c.if-coeffs-eq1.true)
    (item_and_last vs before (get_or before 0 0) c.in_ok-vars.last_var c.in_ok-vars.ensures c.if-vars-eq1.true (get_or_default before 0 0 (get_or before 0 0) (omega arith))) c.difference_by_signs.ensures
