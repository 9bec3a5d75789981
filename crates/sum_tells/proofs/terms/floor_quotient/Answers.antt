-- The quotient by 1 is the number, that by -1 its opposite.
use Rattle.std.proofs.Common.{◌≡◌, pos, negsuc, sym, ap, ◌∙◌, to_z}
use Rattle.std.proofs.lemmas.Int.{to_z-of_z}
use mir.Syntax.{w64, w128}
use Rattle.interval.specs.Quotients.{floor_of}
use Rattle.sum_tells.proofs.QuotientLaws.{floor_by_one, floor_by_minus_one, opposite_fits, coded_opposite}
use Rattle.sum_tells.proofs.terms.floor_quotient.Goals as goal

pub overflow_sub-result : goal.overflow_sub-result
overflow_sub-result c = opposite_fits c.args.room c.ranges.room c.requires.dividend

pub returns-then-coeff-eq1 : goal.returns-then-coeff-eq1
returns-then-coeff-eq1 c =
    let one : c.args.coeff ≡ pos 1 = sym (to_z-of_z w64 c.args.coeff c.ranges.coeff) ∙ ap (to_z w64) c.if-coeff-eq1.true in
    to_z-of_z w128 c.args.room c.ranges.room ∙ floor_by_one c.law_quotient_order.ensures c.args.room ∙ ap (floor_of c.args.room) (sym one)

pub returns-then-coeff-eqminus1 : goal.returns-then-coeff-eqminus1
returns-then-coeff-eqminus1 c =
    let minus_one : c.args.coeff ≡ negsuc 0 = sym (to_z-of_z w64 c.args.coeff c.ranges.coeff) ∙ ap (to_z w64) c.if-coeff-eqminus1.true in
    coded_opposite c.args.room c.ranges.room c.requires.dividend ∙ floor_by_minus_one c.law_quotient_order.ensures c.args.room ∙ ap (floor_of c.args.room) (sym minus_one)
