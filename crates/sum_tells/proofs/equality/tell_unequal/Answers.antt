-- Each step makes the hearer hear the tells of one more term.
use Rattle.std.proofs.Common.{◌<◌, ◌≤◌, sym, subst, pos, List, length}
use Rattle.std.specs.List.{zip}
use Rattle.tells.specs.declared.tell.Tell.{Tell}
use Rattle.tells.specs.Hearing.{MayHearAll, HearsAll}
use Rattle.sum_tells.specs.Equality.{unequal_tell}
use Rattle.sum_tells.proofs.TermLaws.{length-zip}
use Rattle.tell_laws.proofs.HearingLaws.{leads_may, leads_next, leads_end}
use Rattle.sum_tells.proofs.EqualityCode.{told_unequal, coefficient_number}
use Rattle.sum_tells.proofs.equality.tell_unequal.Goals as goal

pub tell_unequal_term-requires-clause-coefficient : goal.tell_unequal_term-requires-clause-coefficient
tell_unequal_term-requires-clause-coefficient g c =
    let at = c.loop-i.i in
    let same = c.requires.linear.same_length in
    coefficient_number c.args.b.now c.args.equation.limit c.args.equation.sum.least c.args.equation.sum.greatest c.args.coeffs.now c.args.vars.now at c.term_of-term.result.coeff c.term_of-term.result.var c.term_of-term.result.range.least c.term_of-term.result.range.greatest same (c.requires.linear.coefficients at c.loop-i-test.true) c.term_of-term.ensures.coeff c.term_of-term.ensures.var c.term_of-term.ensures.least c.term_of-term.ensures.greatest

pub tell_unequal_term-requires-clause-hearer : goal.tell_unequal_term-requires-clause-hearer
tell_unequal_term-requires-clause-hearer g c =
    let at = c.loop-i.i in
    let same = c.requires.linear.same_length in
    let inside : at < length (zip c.args.coeffs.now c.args.vars.now) = rw (length-zip c.args.coeffs.now c.args.vars.now same) c.loop-i-test.true in
    let P : List Tell → Type 0 = λ ts. MayHearAll g.H.Hear.can_hear g.H.Hear.hears c.loop-i.h ts in
    let equal = told_unequal c.args.b.now c.args.equation.limit c.args.equation.sum.least c.args.equation.sum.greatest c.args.coeffs.now c.args.vars.now at c.term_of-term.result.coeff c.term_of-term.result.var c.term_of-term.result.range.least c.term_of-term.result.range.greatest same (c.requires.linear.coefficients at c.loop-i-test.true) c.term_of-term.ensures.coeff c.term_of-term.ensures.var c.term_of-term.ensures.least c.term_of-term.ensures.greatest in
    subst P (sym equal) (leads_may g.H.Hear.can_hear g.H.Hear.hears (unequal_tell c.args.b.now c.args.equation.limit c.args.equation.sum.least c.args.equation.sum.greatest) (zip c.args.coeffs.now c.args.vars.now) c.args.h.now c.loop-i.h at (pos 0, 0) inside c.loop-i.invariant)

pub loop-i-preserved : goal.loop-i-preserved
loop-i-preserved g c =
    let at = c.loop-i.i in
    let same = c.requires.linear.same_length in
    let inside : at < length (zip c.args.coeffs.now c.args.vars.now) = rw (length-zip c.args.coeffs.now c.args.vars.now same) c.loop-i-test.true in
    let P : List Tell → Type 0 = λ ts. HearsAll g.H.Hear.hears c.loop-i.h ts c.tell_unequal_term.new.h in
    let equal = told_unequal c.args.b.now c.args.equation.limit c.args.equation.sum.least c.args.equation.sum.greatest c.args.coeffs.now c.args.vars.now at c.term_of-term.result.coeff c.term_of-term.result.var c.term_of-term.result.range.least c.term_of-term.result.range.greatest same (c.requires.linear.coefficients at c.loop-i-test.true) c.term_of-term.ensures.coeff c.term_of-term.ensures.var c.term_of-term.ensures.least c.term_of-term.ensures.greatest in
    leads_next g.H.Hear.can_hear g.H.Hear.hears (unequal_tell c.args.b.now c.args.equation.limit c.args.equation.sum.least c.args.equation.sum.greatest) (zip c.args.coeffs.now c.args.vars.now) c.args.h.now c.loop-i.h c.tell_unequal_term.new.h at (pos 0, 0) inside c.loop-i.invariant (subst P equal c.tell_unequal_term.ensures)

pub returns : goal.returns
returns g c =
    let outside : length (zip c.args.coeffs.now c.args.vars.now) ≤ c.loop-i.i = rw (length-zip c.args.coeffs.now c.args.vars.now c.requires.linear.same_length) c.loop-i-test.false in
    leads_end g.H.Hear.can_hear g.H.Hear.hears (unequal_tell c.args.b.now c.args.equation.limit c.args.equation.sum.least c.args.equation.sum.greatest) (zip c.args.coeffs.now c.args.vars.now) c.args.h.now c.loop-i.h c.loop-i.i outside c.loop-i.invariant
