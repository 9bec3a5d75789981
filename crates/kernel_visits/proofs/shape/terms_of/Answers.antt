-- Each list has two items before its last one.
use Rattle.std.proofs.Common.{pos, get_or, arith}
use Rattle.std.proofs.lemmas.List.{get_or_default}
use Rattle.kernel_visits.proofs.ShapeLaws.{items_and_last, says_terms, three_read}
use Rattle.kernel_visits.proofs.shape.terms_of.Goals as goal

pub returns-then-vars-eq2 : goal.returns-then-vars-eq2
returns-then-vars-eq2 c =
    let cs = c.args.coeffs.now in
    let vs = c.args.vars.now in
    let front = c.in_ok-coeffs.coeffs.now in
    let before = c.in_ok-vars.vars.now in
    says_terms cs vs _ _ _ _ _ _ c.terms_by_signs.result
    (three_read cs front vs c.in_ok-coeffs.last_coeff (pos 0) c.requires c.in_ok-coeffs.ensures c.if-coeffs-eq2.true)
    (items_and_last vs before (get_or before 0 0) (get_or before 1 0) c.in_ok-vars.last_var c.in_ok-vars.ensures c.if-vars-eq2.true
    (get_or_default before 0 0 (get_or before 0 0) (omega arith)) (get_or_default before 1 0 (get_or before 1 0) (omega arith))) c.terms_by_signs.ensures
