-- The one term that isn't fixed is told what the sum tells.
use Rattle.std.proofs.Common.{◌∙◌, ℤ, pos, suc, List, get_or, FitsSigned, sym, subst, arith, rules}
use Rattle.std.proofs.lemmas.Int.{to_z-of_z}
use mir.Syntax.{w64}
use Rattle.tells.specs.declared.tell.Tell.{Tell}
use Rattle.guarded_tell.specs.Hearing.{MayHearAll, HearsAll}
use Rattle.kernel_visits.specs.Sole.{IsBoundTerm, IsLeftBeside}
use Rattle.sum_tells.specs.Equality.{product_is_not}
use Rattle.tell_laws.specs.Narrowing.{narrowing}
use Rattle.sum_tells.proofs.ProductLaws.{coded_number}
use Rattle.kernel_visits.proofs.SoleLaws.{sole_told}
use Rattle.kernel_visits.proofs.sole.is_sole_given.Goals as goal

pub unit_term-term-requires-clause-variable : goal.unit_term-term-requires-clause-variable
unit_term-term-requires-clause-variable g c = c.requires.variables.each (suc c.args.place) (omega (arith, c.requires.place, c.requires.linear.same_length))

pub unit_term-term-requires-clause-proper : goal.unit_term-term-requires-clause-proper
unit_term-term-requires-clause-proper g c = c.requires.proper (suc c.args.place) (omega (arith, c.requires.place, c.requires.linear.same_length))

pub slight_sums-sums-requires-clause-variables : goal.slight_sums-sums-requires-clause-variables
slight_sums-sums-requires-clause-variables g c = record { each = λ i h. c.requires.variables.each (suc i) (omega arith) }

pub slight_sums-sums-requires-clause-proper : goal.slight_sums-sums-requires-clause-proper
slight_sums-sums-requires-clause-proper g c = λ i h. c.requires.proper (suc i) (omega arith)

pub narrow_apart-requires-clause-variable : goal.narrow_apart-requires-clause-variable
narrow_apart-requires-clause-variable g c = c.requires.variables.each (suc c.args.place) (omega (arith, c.requires.place, c.requires.linear.same_length))

pub narrow_apart-requires-clause-hearer : goal.narrow_apart-requires-clause-hearer
narrow_apart-requires-clause-hearer g c =
    let b = c.args.b.now in
    let at = c.args.place in
    let coeffs = c.args.coeffs.now in
    let vars = c.args.vars.now in
    let number = coded_number (get_or coeffs at (pos 0)) (c.requires.linear.coefficients at c.requires.place) in
    let T : ℤ → Type 0 = λ z. IsBoundTerm b z (get_or vars at 0) c.unit_term-term.result in
    let B : ℤ → Type 0 = λ z. IsLeftBeside c.unit_term-term.result z c.slight_sums-sums.result c.in-Some.product in
    let told = sole_told c.law_clamp_order.ensures b c.args.lit coeffs vars c.args.limit c.requires.linear.same_length c.requires.out at c.requires.place
    c.slight_sums-sums.result c.slight_sums-sums.ensures.sums c.unit_term-term.result (subst T number c.unit_term-term.ensures) c.in-Some.product
    (subst B (to_z-of_z w64 c.args.limit c.ranges.limit) c.in-Some.ensures) in
    let fits : FitsSigned w64 c.in-Some.product = search rules in
    let product = to_z-of_z w64 c.in-Some.product fits in
    let P : List Tell → Type 0 = λ ts. MayHearAll g.H.Hear.can_hear g.H.Hear.hears c.args.h.now ts in
    subst P (told ∙ (λ i. narrowing b (product_is_not (get_or vars at 0) (sym number i) (sym product i) b))) c.requires.hearer

pub returns-in-Some-clause-given : goal.returns-in-Some-clause-given
returns-in-Some-clause-given g c =
    let b = c.args.b.now in
    let at = c.args.place in
    let coeffs = c.args.coeffs.now in
    let vars = c.args.vars.now in
    let number = coded_number (get_or coeffs at (pos 0)) (c.requires.linear.coefficients at c.requires.place) in
    let T : ℤ → Type 0 = λ z. IsBoundTerm b z (get_or vars at 0) c.unit_term-term.result in
    let B : ℤ → Type 0 = λ z. IsLeftBeside c.unit_term-term.result z c.slight_sums-sums.result c.in-Some.product in
    let told = sole_told c.law_clamp_order.ensures b c.args.lit coeffs vars c.args.limit c.requires.linear.same_length c.requires.out at c.requires.place
    c.slight_sums-sums.result c.slight_sums-sums.ensures.sums c.unit_term-term.result (subst T number c.unit_term-term.ensures) c.in-Some.product
    (subst B (to_z-of_z w64 c.args.limit c.ranges.limit) c.in-Some.ensures) in
    let fits : FitsSigned w64 c.in-Some.product = search rules in
    let product = to_z-of_z w64 c.in-Some.product fits in
    let P : List Tell → Type 0 = λ ts. HearsAll g.H.Hear.hears c.args.h.now ts c.narrow_apart.new.h in
    subst P (sym (told ∙ (λ i. narrowing b (product_is_not (get_or vars at 0) (sym number i) (sym product i) b)))) c.narrow_apart.ensures
