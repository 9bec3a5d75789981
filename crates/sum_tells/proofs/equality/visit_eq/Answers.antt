-- Two lists of tells are heard one after the other. The literal's variable stands before those of the sum.
use Rattle.std.proofs.Common.{ℤ, suc, ◌++◌, arith}
use Rattle.std.proofs.lemmas.Int.{to_z-of_z}
use Rattle.std.specs.List.{zip}
use mir.Syntax.{w64}
use Rattle.tells.specs.Hearing.{HearsAll}
use Rattle.sum_tells.specs.Linear.{sum_over, least_of, greatest_of}
use Rattle.sum_tells.specs.Equality.{equation_tells, equal_tells, unequal_tells, eq_tells}
use Rattle.tell_laws.proofs.HearingLaws.{hears_both, along}
use Rattle.sum_tells.proofs.equality.visit_eq.Goals as goal

pub sum_range-sum-requires-clause-variables : goal.sum_range-sum-requires-clause-variables
sum_range-sum-requires-clause-variables g c = record { each = λ i h. c.requires.variables.each (suc i) (omega arith) }

pub tell_terms-requires-clause-variables : goal.tell_terms-requires-clause-variables
tell_terms-requires-clause-variables g c = record { each = λ i h. c.requires.variables.each (suc i) (omega arith) }

pub returns : goal.returns
unfolding eq_tells
returns g c =
    let sum = c.sum_range-sum.ensures in
    let limit = to_z-of_z w64 c.args.limit c.ranges.limit in
    let terms = zip c.args.coeffs.now c.args.vars.now in
    let m = sum_over (least_of c.args.b.now) terms in
    let n = sum_over (greatest_of c.args.b.now) terms in
    let now = c.tell_equation.new.h in
    let after = c.tell_terms.new.h in
    let first = along (λ (x : ℤ) (y : ℤ) (z : ℤ). HearsAll g.H.Hear.hears c.args.h.now (equation_tells c.args.lit x y z) now)
    limit sum.least sum.greatest c.tell_equation.ensures in
    let second = along (λ (x : ℤ) (y : ℤ) (z : ℤ). HearsAll g.H.Hear.hears now (equal_tells c.args.lit terms x y z c.args.b.now ++ unequal_tells c.args.lit terms x y z c.args.b.now) after)
    limit sum.least sum.greatest c.tell_terms.ensures in
    hears_both g.H.Hear.can_hear g.H.Hear.hears c.args.h.now now after
    (equation_tells c.args.lit c.args.limit m n)
    (equal_tells c.args.lit terms c.args.limit m n c.args.b.now ++ unequal_tells c.args.lit terms c.args.limit m n c.args.b.now)
    first second
