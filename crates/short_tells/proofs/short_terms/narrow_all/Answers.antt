-- Each step makes the hearer hear the tells of one more term.
use Rattle.std.proofs.Common.{ℤ, ◌<◌, ◌≤◌, sym, subst, ◌∙◌, pos, length, get_or}
use Rattle.std.specs.List.{zip}
use Rattle.sum_tells.specs.Linear.{Term}
use Rattle.tells.specs.Hearing.{MayHearAll, HearsAll}
use Rattle.tell_laws.specs.Narrowing.{narrowing}
use Rattle.small_sums.specs.Short.{IsShortGrowth}
use Rattle.short_tells.specs.ShortTells.{room_tells}
use Rattle.sum_tells.proofs.TermLaws.{length-zip, get_or-zip}
use Rattle.tell_laws.proofs.HearingLaws.{leads_may, leads_next, leads_end}
use Rattle.sum_tells.proofs.ProductLaws.{coded_number}
use Rattle.short_tells.proofs.short_terms.narrow_all.Goals as goal

pub narrow_term-requires-clause-hearer : goal.narrow_term-requires-clause-hearer
narrow_term-requires-clause-hearer g c =
    let at = c.loop-i.i in
    let same = c.requires.linear.same_length in
    let inside : at < length (zip c.args.coeffs.now c.args.vars.now) = rw (length-zip c.args.coeffs.now c.args.vars.now same) c.loop-i-test.true in
    let P : Term → Type 0 = λ t. MayHearAll g.H.Hear.can_hear g.H.Hear.hears c.loop-i.h (narrowing c.args.b.now (room_tells c.args.b.now c.args.room t)) in
    let number = coded_number (get_or c.args.coeffs.now at (pos 0)) (c.requires.linear.coefficients at c.loop-i-test.true) in
    subst P (get_or-zip c.args.coeffs.now c.args.vars.now at same ∙ (λ i. (sym number i, get_or c.args.vars.now at 0))) (leads_may _ _ _ _ _ _ at (pos 0, 0) inside c.loop-i.invariant)

pub loop-i-preserved : goal.loop-i-preserved
loop-i-preserved g c =
    let at = c.loop-i.i in
    let same = c.requires.linear.same_length in
    let inside : at < length (zip c.args.coeffs.now c.args.vars.now) = rw (length-zip c.args.coeffs.now c.args.vars.now same) c.loop-i-test.true in
    let P : Term → Type 0 = λ t. HearsAll g.H.Hear.hears c.loop-i.h (narrowing c.args.b.now (room_tells c.args.b.now c.args.room t)) c.narrow_term.new.h in
    let number = coded_number (get_or c.args.coeffs.now at (pos 0)) (c.requires.linear.coefficients at c.loop-i-test.true) in
    leads_next _ _ _ _ _ _ _ at (pos 0, 0) inside c.loop-i.invariant
    (subst P (sym (get_or-zip c.args.coeffs.now c.args.vars.now at same ∙ (λ i. (sym number i, get_or c.args.vars.now at 0)))) c.narrow_term.ensures)

pub returns : goal.returns
returns g c =
    let outside : length (zip c.args.coeffs.now c.args.vars.now) ≤ c.loop-i.i = rw (length-zip c.args.coeffs.now c.args.vars.now c.requires.linear.same_length) c.loop-i-test.false in
    leads_end _ _ _ _ _ _ c.loop-i.i outside c.loop-i.invariant

pub narrow_term-requires-clause-growth : goal.narrow_term-requires-clause-growth
narrow_term-requires-clause-growth g c =
    let at = c.loop-i.i in
    let P : ℤ → Type 0 = λ a. IsShortGrowth c.args.b.now a (get_or c.args.vars.now at 0) in
    subst P (sym (coded_number (get_or c.args.coeffs.now at (pos 0)) (c.requires.linear.coefficients at c.loop-i-test.true))) (c.requires.growths.each at c.loop-i-test.true)
