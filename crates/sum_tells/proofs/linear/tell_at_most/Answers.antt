-- Each step makes the hearer hear the tells of one more term.
use Rattle.std.proofs.Common.{◌<◌, ◌≤◌, sym, subst, ℤ, pos, List, length, to_z, of_z}
use Rattle.std.proofs.lemmas.Int.{to_z-of_z}
use Rattle.std.specs.List.{zip, flat_map}
use mir.Syntax.{w64, w128}
use Rattle.tells.specs.declared.tell.Tell.{Tell}
use Rattle.tells.specs.Hearing.{MayHearAll, HearsAll}
use Rattle.sum_tells.specs.Linear.{at_most_tell}
use Rattle.sum_tells.proofs.TermLaws.{length-zip}
use Rattle.tell_laws.proofs.HearingLaws.{leads_may, leads_next, leads_end}
use Rattle.sum_tells.proofs.ProductLaws.{told_at_most}
use Rattle.sum_tells.proofs.linear.tell_at_most.Goals as goal

pub tell_product_at_most-requires-clause-hearer : goal.tell_product_at_most-requires-clause-hearer
tell_product_at_most-requires-clause-hearer g c =
    let at = c.loop-i.i in
    let same = c.requires.linear.same_length in
    let inside : at < length (zip c.args.coeffs.now c.args.vars.now) = rw (length-zip c.args.coeffs.now c.args.vars.now same) c.loop-i-test.true in
    let P : List Tell → Type 0 = λ ts. MayHearAll g.H.Hear.can_hear g.H.Hear.hears c.loop-i.h ts in
    let equal = told_at_most c.args.b.now (to_z w64 (of_z w64 c.args.limit)) (to_z w128 (of_z w128 c.args.least)) c.args.coeffs.now c.args.vars.now at c.term_range-term.result.least c.room_for-room.result same (c.requires.linear.coefficients at c.loop-i-test.true) c.term_range-term.ensures.least_in_range c.room_for-room.ensures.in_range c.term_range-term.ensures.least c.room_for-room.ensures.value in
    subst P (sym equal) (leads_may _ _ _ _ _ _ at (pos 0, 0) inside c.loop-i.invariant)

pub loop-i-preserved : goal.loop-i-preserved
loop-i-preserved g c =
    let at = c.loop-i.i in
    let same = c.requires.linear.same_length in
    let inside : at < length (zip c.args.coeffs.now c.args.vars.now) = rw (length-zip c.args.coeffs.now c.args.vars.now same) c.loop-i-test.true in
    let P : List Tell → Type 0 = λ ts. HearsAll g.H.Hear.hears c.loop-i.h ts c.tell_product_at_most.new.h in
    let equal = told_at_most c.args.b.now (to_z w64 (of_z w64 c.args.limit)) (to_z w128 (of_z w128 c.args.least)) c.args.coeffs.now c.args.vars.now at c.term_range-term.result.least c.room_for-room.result same (c.requires.linear.coefficients at c.loop-i-test.true) c.term_range-term.ensures.least_in_range c.room_for-room.ensures.in_range c.term_range-term.ensures.least c.room_for-room.ensures.value in
    leads_next _ _ _ _ _ _ _ at (pos 0, 0) inside c.loop-i.invariant (subst P equal c.tell_product_at_most.ensures)

pub returns : goal.returns
returns g c =
    let outside : length (zip c.args.coeffs.now c.args.vars.now) ≤ c.loop-i.i = rw (length-zip c.args.coeffs.now c.args.vars.now c.requires.linear.same_length) c.loop-i-test.false in
    let P : ℤ → ℤ → Type 0 = λ y z. HearsAll g.H.Hear.hears c.args.h.now (flat_map (at_most_tell c.args.b.now y z) (zip c.args.coeffs.now c.args.vars.now)) c.loop-i.h in
    let heard : P (to_z w64 (of_z w64 c.args.limit)) (to_z w128 (of_z w128 c.args.least)) = leads_end _ _ _ _ _ _ c.loop-i.i outside c.loop-i.invariant in
    subst (λ (y : ℤ). P y c.args.least) (to_z-of_z w64 c.args.limit c.ranges.limit) (subst (P (to_z w64 (of_z w64 c.args.limit))) (to_z-of_z w128 c.args.least c.ranges.least) heard)
