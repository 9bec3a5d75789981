-- Two lists of tells are heard one after the other.
use Rattle.std.proofs.Common.{suc, ℤ, sym, arith}
use Rattle.std.proofs.lemmas.Int.{to_z-of_z}
use Rattle.std.specs.List.{zip}
use mir.Syntax.{w64}
use Rattle.tells.specs.Hearing.{MayHearAll, HearsAll}
use Rattle.sum_tells.specs.Linear.{literal_tells, bound_tells, sum_over, least_of, greatest_of}
use Rattle.tell_laws.proofs.HearingLaws.{may_first, may_rest, hears_both, along}
use Rattle.sum_tells.proofs.linear.visit_le.Goals as goal

pub tell_literal-requires : goal.tell_literal-requires
tell_literal-requires g c =
    let sum = c.sum_range-sum.ensures in
    let terms = zip c.args.coeffs.now c.args.vars.now in
    let may = may_first g.H.Hear.can_hear g.H.Hear.hears c.args.h.now
    (literal_tells c.args.lit c.args.limit (sum_over (least_of c.args.b.now) terms) (sum_over (greatest_of c.args.b.now) terms))
    (bound_tells c.args.lit terms c.args.limit (sum_over (least_of c.args.b.now) terms) (sum_over (greatest_of c.args.b.now) terms) c.args.b.now)
    c.requires.hearer in
    along (λ (x : ℤ) (y : ℤ) (z : ℤ). MayHearAll g.H.Hear.can_hear g.H.Hear.hears c.args.h.now (literal_tells c.args.lit x y z))
    (sym (to_z-of_z w64 c.args.limit c.ranges.limit)) (sym sum.least) (sym sum.greatest) may

pub tell_bounds-requires-clause-hearer : goal.tell_bounds-requires-clause-hearer
tell_bounds-requires-clause-hearer g c =
    let sum = c.sum_range-sum.ensures in
    let terms = zip c.args.coeffs.now c.args.vars.now in
    let now = c.tell_literal.new.h in
    let heard = along (λ (x : ℤ) (y : ℤ) (z : ℤ). HearsAll g.H.Hear.hears c.args.h.now (literal_tells c.args.lit x y z) now)
    (to_z-of_z w64 c.args.limit c.ranges.limit) sum.least sum.greatest c.tell_literal.ensures in
    let may = may_rest g.H.Hear.can_hear g.H.Hear.hears c.args.h.now now
    (literal_tells c.args.lit c.args.limit (sum_over (least_of c.args.b.now) terms) (sum_over (greatest_of c.args.b.now) terms))
    (bound_tells c.args.lit terms c.args.limit (sum_over (least_of c.args.b.now) terms) (sum_over (greatest_of c.args.b.now) terms) c.args.b.now)
    c.requires.hearer heard in
    along (λ (x : ℤ) (y : ℤ) (z : ℤ). MayHearAll g.H.Hear.can_hear g.H.Hear.hears now (bound_tells c.args.lit terms x y z c.args.b.now))
    (sym (to_z-of_z w64 c.args.limit c.ranges.limit)) (sym sum.least) (sym sum.greatest) may

pub returns : goal.returns
returns g c =
    let sum = c.sum_range-sum.ensures in
    let terms = zip c.args.coeffs.now c.args.vars.now in
    let now = c.tell_literal.new.h in
    let after = c.tell_bounds.new.h in
    let first = along (λ (x : ℤ) (y : ℤ) (z : ℤ). HearsAll g.H.Hear.hears c.args.h.now (literal_tells c.args.lit x y z) now)
    (to_z-of_z w64 c.args.limit c.ranges.limit) sum.least sum.greatest c.tell_literal.ensures in
    let second = along (λ (x : ℤ) (y : ℤ) (z : ℤ). HearsAll g.H.Hear.hears now (bound_tells c.args.lit terms x y z c.args.b.now) after)
    (to_z-of_z w64 c.args.limit c.ranges.limit) sum.least sum.greatest c.tell_bounds.ensures in
    hears_both g.H.Hear.can_hear g.H.Hear.hears c.args.h.now now after
    (literal_tells c.args.lit c.args.limit (sum_over (least_of c.args.b.now) terms) (sum_over (greatest_of c.args.b.now) terms))
    (bound_tells c.args.lit terms c.args.limit (sum_over (least_of c.args.b.now) terms) (sum_over (greatest_of c.args.b.now) terms) c.args.b.now)
    first second

-- the literal's variable stands before those of the sum
pub sum_range-sum-requires-clause-variables : goal.sum_range-sum-requires-clause-variables
sum_range-sum-requires-clause-variables g c = record { each = λ i h. c.requires.variables.each (suc i) (omega arith) }

pub tell_bounds-requires-clause-variables : goal.tell_bounds-requires-clause-variables
tell_bounds-requires-clause-variables g c = record { each = λ i h. c.requires.variables.each (suc i) (omega arith) }
