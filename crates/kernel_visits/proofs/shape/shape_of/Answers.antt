-- A difference makes the short shape of the kernel; where there is none, no other shape is the kernel's.
use Rattle.std.proofs.Common.{◌≡◌, refl, sym, subst, inl}
use Rattle.kernel_visits.proofs.ShapeLaws.{any_is_other, other_inequality, other_equation, other_kernel, at_most_made, same_made, none_read, equation_made, sum_made, sum_rough}
use Rattle.small_sums.specs.Slight.{AreSlight}
use Rattle.kernel_visits.specs.Shapes.{IsShapeOf}
use Rattle.kernel_visits.proofs.shape.shape_of.Goals as goal

pub returns-in-Some-clause-shape : goal.returns-in-Some-clause-shape
returns-in-Some-clause-shape c =
    let same_coeffs : c.as_slice.result.now ≡ c.in-Le.coeffs = cc in
    let same_vars : c.as_slice-in-Le.result.now ≡ c.in-Le.vars = cc in
    at_most_made c.args.k.now c.in-Le.lit c.in-Le.coeffs c.as_slice.result.now c.in-Le.vars c.as_slice-in-Le.result.now c.in-Le.limit c.requires same_coeffs same_vars c.in-Le.is c.in-Some.x c.in-Some.y c.in-Some.ensures

pub returns-in-None-clause-shape : goal.returns-in-None-clause-shape
returns-in-None-clause-shape c =
    let same : c.as_slice-in-None.result.now ≡ c.in-Le.coeffs = cc in
    sum_made c.args.k.now c.are_slight.result c.sum_shape.result
    (λ t. (c.in-Le.lit, c.in-Le.coeffs, c.in-Le.vars, c.in-Le.limit, inl c.in-Le.is, subst AreSlight same (c.are_slight.ensures.0 t))) c.sum_shape.ensures

pub returns-in-None-clause-shortest : goal.returns-in-None-clause-shortest
returns-in-None-clause-shortest c s is same =
    let same_coeffs : c.as_slice.result.now ≡ c.in-Le.coeffs = cc in
    let same_vars : c.as_slice-in-Le.result.now ≡ c.in-Le.vars = cc in
    let same_slice : c.as_slice-in-None.result.now ≡ c.in-Le.coeffs = cc in
    other_inequality c.in-Le.lit c.in-Le.coeffs c.in-Le.vars c.in-Le.limit
    (none_read c.args.k.now c.in-Le.lit c.in-Le.coeffs c.as_slice.result.now c.in-Le.vars c.as_slice-in-Le.result.now c.in-Le.limit c.requires same_coeffs same_vars c.in-None.ensures)
    (λ slight. sum_rough c.in-Le.coeffs c.are_slight.result c.sum_shape.result (λ a. c.are_slight.ensures.1 (subst AreSlight (sym same_slice) a)) c.sum_shape.ensures same slight)
    c.args.k.now c.in-Le.is s is

pub returns-in-Some-extended_difference_of-clause-shape : goal.returns-in-Some-extended_difference_of-clause-shape
returns-in-Some-extended_difference_of-clause-shape c =
    let made = c.in-Some-extended_difference_of in
    same_made c.args.k.now c.in-Eq.lit c.in-Eq.coeffs c.in-Eq.coeffs c.in-Eq.vars c.in-Eq.vars c.in-Eq.limit c.requires refl refl c.in-Eq.is made.x made.y made.ensures

pub returns-in-None-extended_difference_of-clause-shape : goal.returns-in-None-extended_difference_of-clause-shape
returns-in-None-extended_difference_of-clause-shape c =
    equation_made c.args.k.now c.in-Eq.lit c.in-Eq.coeffs c.in-Eq.coeffs c.in-Eq.vars c.in-Eq.vars c.in-Eq.limit c.requires refl refl c.in-Eq.is c.equation_shape.result (c.equation_shape.ensures.shape c.in-Eq.lit)

pub returns-in-None-extended_difference_of-clause-shortest : goal.returns-in-None-extended_difference_of-clause-shortest
returns-in-None-extended_difference_of-clause-shortest c s is same =
    other_equation c.in-Eq.lit c.in-Eq.coeffs c.in-Eq.vars c.in-Eq.limit c.in-None-extended_difference_of.ensures
    (λ slight. c.equation_shape.ensures.rough same slight)
    c.args.k.now c.in-Eq.is s is

pub returns-in_default : goal.returns-in_default
returns-in_default c = record {
  shape = any_is_other c.args.k.now;
  shortest = λ s is same. other_kernel c.args.k.now c.in_default.not-Le c.in_default.not-Eq c.in_default.not-Clause c.in_default.not-Times c.in_default.not-Max s is;
}

pub returns-in-Times-clause-shape : goal.returns-in-Times-clause-shape
unfolding IsShapeOf
returns-in-Times-clause-shape c = c.in-Times.is
