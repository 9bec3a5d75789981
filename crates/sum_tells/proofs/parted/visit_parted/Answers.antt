-- Two lists of tells are heard one after the other. The literal's variable stands before those of the sum.
use Rattle.std.proofs.Common.{ℕ, ℤ, suc, List, [], ◌∷◌, ◌++◌, length, sym, subst, arith, to_z, of_z}
use Rattle.std.proofs.lemmas.Int.{to_z-of_z}
use Rattle.std.specs.List.{zip}
use mir.Syntax.{w64}
use Rattle.tells.specs.Words.{AreVariables}
use Rattle.tells.specs.Hearing.{MayHearAll, HearsAll}
use Rattle.sum_tells.specs.Linear.{Term, sum_over, least_of, greatest_of}
use Rattle.sum_tells.specs.Equality.{equation_tells, equal_tells, unequal_tells, eq_tells}
use Rattle.tell_laws.proofs.HearingLaws.{may_first, may_rest, hears_both, along}
use Rattle.sum_tells.proofs.PartedLaws.{zip_last, linear-front, linear-last, variables-front, variables-last}
use Rattle.sum_tells.proofs.parted.visit_parted.Goals as goal

behind : (count v : ℕ) (vars : List ℕ) → AreVariables count (v ∷ vars) → AreVariables count vars
behind count v vars all = record { each = λ i h. all.each (suc i) (omega arith) }

pub parted_range-sum-requires-clause-variables : goal.parted_range-sum-requires-clause-variables
parted_range-sum-requires-clause-variables g c = behind (length c.args.b.now) c.args.lit.var (c.args.vars.now ++ c.args.last.1 ∷ []) c.requires.variables

pub tell_equation-requires : goal.tell_equation-requires
unfolding eq_tells
tell_equation-requires g c =
    let sum = c.parted_range-sum in
    let limit = to_z w64 (of_z w64 c.args.limit) in
    let limit_is = to_z-of_z w64 c.args.limit c.ranges.limit in
    let zips = zip_last c.args.coeffs.now c.args.vars.now c.args.last.0 c.args.last.1 c.requires.lengths in
    let P : List Term → Type 0 = λ ts. MayHearAll g.H.Hear.can_hear g.H.Hear.hears c.args.h.now (equation_tells c.args.lit c.args.limit (sum_over (least_of c.args.b.now) ts) (sum_over (greatest_of c.args.b.now) ts) ++ (equal_tells c.args.lit ts c.args.limit (sum_over (least_of c.args.b.now) ts) (sum_over (greatest_of c.args.b.now) ts) c.args.b.now ++ unequal_tells c.args.lit ts c.args.limit (sum_over (least_of c.args.b.now) ts) (sum_over (greatest_of c.args.b.now) ts) c.args.b.now)) in
    let F : ℤ → ℤ → ℤ → Type 0 = λ x y z. MayHearAll g.H.Hear.can_hear g.H.Hear.hears c.args.h.now (equation_tells c.args.lit x y z ++ (equal_tells c.args.lit (zip c.args.coeffs.now c.args.vars.now ++ c.args.last ∷ []) x y z c.args.b.now ++ unequal_tells c.args.lit (zip c.args.coeffs.now c.args.vars.now ++ c.args.last ∷ []) x y z c.args.b.now)) in
    let may = along F (sym limit_is) (sym sum.ensures.least) (sym sum.ensures.greatest) (subst P zips c.requires.hearer) in
    may_first g.H.Hear.can_hear g.H.Hear.hears c.args.h.now
    (equation_tells c.args.lit limit sum.result.least sum.result.greatest)
    (equal_tells c.args.lit (zip c.args.coeffs.now c.args.vars.now ++ c.args.last ∷ []) limit sum.result.least sum.result.greatest c.args.b.now ++ unequal_tells c.args.lit (zip c.args.coeffs.now c.args.vars.now ++ c.args.last ∷ []) limit sum.result.least sum.result.greatest c.args.b.now)
    may

pub tell_terms-requires-clause-linear : goal.tell_terms-requires-clause-linear
tell_terms-requires-clause-linear g c =
    let limit_is = to_z-of_z w64 c.args.limit c.ranges.limit in
    let P : ℤ → Type 0 = λ z. Rattle.sum_tells.specs.Linear.IsLinear c.args.coeffs.now c.args.vars.now z in
    subst P (sym limit_is) (linear-front c.args.coeffs.now c.args.vars.now c.args.last.0 c.args.last.1 c.args.limit c.requires.linear)

pub tell_terms-requires-clause-last : goal.tell_terms-requires-clause-last
tell_terms-requires-clause-last g c = linear-last c.args.coeffs.now c.args.vars.now c.args.last.0 c.args.last.1 c.args.limit c.requires.linear

pub tell_terms-requires-clause-literal : goal.tell_terms-requires-clause-literal
tell_terms-requires-clause-literal g c = c.requires.variables.each 0 (omega arith)

pub tell_terms-requires-clause-variables : goal.tell_terms-requires-clause-variables
tell_terms-requires-clause-variables g c =
    variables-front (length c.args.b.now) c.args.vars.now c.args.last.1 (behind (length c.args.b.now) c.args.lit.var (c.args.vars.now ++ c.args.last.1 ∷ []) c.requires.variables)

pub tell_terms-requires-clause-last_variable : goal.tell_terms-requires-clause-last_variable
tell_terms-requires-clause-last_variable g c =
    variables-last (length c.args.b.now) c.args.vars.now c.args.last.1 (behind (length c.args.b.now) c.args.lit.var (c.args.vars.now ++ c.args.last.1 ∷ []) c.requires.variables)

pub tell_terms-requires-clause-hearer : goal.tell_terms-requires-clause-hearer
unfolding eq_tells
tell_terms-requires-clause-hearer g c =
    let sum = c.parted_range-sum in
    let limit = to_z w64 (of_z w64 c.args.limit) in
    let limit_is = to_z-of_z w64 c.args.limit c.ranges.limit in
    let zips = zip_last c.args.coeffs.now c.args.vars.now c.args.last.0 c.args.last.1 c.requires.lengths in
    let P : List Term → Type 0 = λ ts. MayHearAll g.H.Hear.can_hear g.H.Hear.hears c.args.h.now (equation_tells c.args.lit c.args.limit (sum_over (least_of c.args.b.now) ts) (sum_over (greatest_of c.args.b.now) ts) ++ (equal_tells c.args.lit ts c.args.limit (sum_over (least_of c.args.b.now) ts) (sum_over (greatest_of c.args.b.now) ts) c.args.b.now ++ unequal_tells c.args.lit ts c.args.limit (sum_over (least_of c.args.b.now) ts) (sum_over (greatest_of c.args.b.now) ts) c.args.b.now)) in
    let F : ℤ → ℤ → ℤ → Type 0 = λ x y z. MayHearAll g.H.Hear.can_hear g.H.Hear.hears c.args.h.now (equation_tells c.args.lit x y z ++ (equal_tells c.args.lit (zip c.args.coeffs.now c.args.vars.now ++ c.args.last ∷ []) x y z c.args.b.now ++ unequal_tells c.args.lit (zip c.args.coeffs.now c.args.vars.now ++ c.args.last ∷ []) x y z c.args.b.now)) in
    let may = along F (sym limit_is) (sym sum.ensures.least) (sym sum.ensures.greatest) (subst P zips c.requires.hearer) in
    may_rest g.H.Hear.can_hear g.H.Hear.hears c.args.h.now c.tell_equation.new.h
    (equation_tells c.args.lit limit sum.result.least sum.result.greatest)
    (equal_tells c.args.lit (zip c.args.coeffs.now c.args.vars.now ++ c.args.last ∷ []) limit sum.result.least sum.result.greatest c.args.b.now ++ unequal_tells c.args.lit (zip c.args.coeffs.now c.args.vars.now ++ c.args.last ∷ []) limit sum.result.least sum.result.greatest c.args.b.now)
    may c.tell_equation.ensures

pub returns : goal.returns
unfolding eq_tells
returns g c =
    let sum = c.parted_range-sum in
    let limit = to_z w64 (of_z w64 c.args.limit) in
    let limit_is = to_z-of_z w64 c.args.limit c.ranges.limit in
    let zips = zip_last c.args.coeffs.now c.args.vars.now c.args.last.0 c.args.last.1 c.requires.lengths in
    let P : List Term → Type 0 = λ ts. HearsAll g.H.Hear.hears c.args.h.now (equation_tells c.args.lit c.args.limit (sum_over (least_of c.args.b.now) ts) (sum_over (greatest_of c.args.b.now) ts) ++ (equal_tells c.args.lit ts c.args.limit (sum_over (least_of c.args.b.now) ts) (sum_over (greatest_of c.args.b.now) ts) c.args.b.now ++ unequal_tells c.args.lit ts c.args.limit (sum_over (least_of c.args.b.now) ts) (sum_over (greatest_of c.args.b.now) ts) c.args.b.now)) c.tell_terms.new.h in
    let F : ℤ → ℤ → ℤ → Type 0 = λ x y z. HearsAll g.H.Hear.hears c.args.h.now (equation_tells c.args.lit x y z ++ (equal_tells c.args.lit (zip c.args.coeffs.now c.args.vars.now ++ c.args.last ∷ []) x y z c.args.b.now ++ unequal_tells c.args.lit (zip c.args.coeffs.now c.args.vars.now ++ c.args.last ∷ []) x y z c.args.b.now)) c.tell_terms.new.h in
    let heard = hears_both g.H.Hear.can_hear g.H.Hear.hears c.args.h.now c.tell_equation.new.h c.tell_terms.new.h
    (equation_tells c.args.lit limit sum.result.least sum.result.greatest)
    (equal_tells c.args.lit (zip c.args.coeffs.now c.args.vars.now ++ c.args.last ∷ []) limit sum.result.least sum.result.greatest c.args.b.now ++ unequal_tells c.args.lit (zip c.args.coeffs.now c.args.vars.now ++ c.args.last ∷ []) limit sum.result.least sum.result.greatest c.args.b.now)
    c.tell_equation.ensures c.tell_terms.ensures in
    subst P (sym zips) (along F limit_is sum.ensures.least sum.ensures.greatest heard)
