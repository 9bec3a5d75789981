-- Each step makes the hearer hear the drops of one more term.
use Rattle.std.proofs.Common.{◌<◌, ◌≤◌, ◌+◌, ◌∙◌, ℤ, sym, ap, subst, pos, List, drop, get_or, length, arith}
use Rattle.std.specs.List.{zip, flat_map}
use Rattle.interval.specs.Limits.{IsNumber}
use Rattle.sum_tells.specs.Linear.{Term}
use Rattle.domain_drops.specs.Hearing.{Drop, MayHearDrops, HearsDrops}
use Rattle.domain_drops.specs.Drops.{term_drops}
use Rattle.domain_drops.proofs.TermLaws.{length-zip, get_or-zip}
use Rattle.domain_drops.proofs.HearingLaws.{leads_may, leads_next, leads_end, drops_more, drops_end}
use Rattle.domain_drops.proofs.equation.drop_unequal.Goals as goal

pub term_at-term-requires-clause-coefficient : goal.term_at-term-requires-clause-coefficient
term_at-term-requires-clause-coefficient g c = let count = c.len-i-end.ensures in let same = c.requires.linear.same_length in let less = c.loop-i-test.true in omega arith

pub drop_term-requires-clause-coefficient : goal.drop_term-requires-clause-coefficient
drop_term-requires-clause-coefficient g c =
    let inside : c.loop-i.i < length c.args.coeffs.now = (let count = c.len-i-end.ensures in let same = c.requires.linear.same_length in let less = c.loop-i-test.true in omega arith) in
    let N : ℤ → Type 0 = λ z. IsNumber z in
    subst N (sym c.term_at-term.ensures.coeff) (c.requires.linear.coefficients c.loop-i.i inside)

pub drop_term-requires-clause-hearer : goal.drop_term-requires-clause-hearer
drop_term-requires-clause-hearer g c =
    let at = c.loop-i.i in
    let ts = zip c.args.coeffs.now c.args.vars.now in
    let same = c.requires.linear.same_length in
    let inside : at < length ts = (let count = c.len-i-end.ensures in let all = length-zip c.args.coeffs.now c.args.vars.now same in let less = c.loop-i-test.true in omega arith) in
    let f : Term → List Drop = term_drops c.args.m.now c.args.equation.limit c.args.equation.sum.least c.args.equation.sum.greatest in
    let term = c.term_at-term.ensures in
    let P : List Drop → Type 0 = λ ds. MayHearDrops g.H.HearDrop.can_hear g.H.HearDrop.hears c.loop-i.h ds in
    subst P (ap f (get_or-zip c.args.coeffs.now c.args.vars.now at same) ∙ (λ i. f (sym term.coeff i, sym term.var i)))
    (leads_may g.H.HearDrop.can_hear g.H.HearDrop.hears (flat_map f ts) (flat_map f (drop at ts)) (f (get_or ts at (pos 0, 0))) (flat_map f (drop (at + 1) ts)) c.args.h.now c.loop-i.h
    (drops_more f ts at (pos 0, 0) inside) c.loop-i.invariant)

pub loop-i-preserved : goal.loop-i-preserved
loop-i-preserved g c =
    let at = c.loop-i.i in
    let ts = zip c.args.coeffs.now c.args.vars.now in
    let same = c.requires.linear.same_length in
    let inside : at < length ts = (let count = c.len-i-end.ensures in let all = length-zip c.args.coeffs.now c.args.vars.now same in let less = c.loop-i-test.true in omega arith) in
    let f : Term → List Drop = term_drops c.args.m.now c.args.equation.limit c.args.equation.sum.least c.args.equation.sum.greatest in
    let term = c.term_at-term.ensures in
    let P : List Drop → Type 0 = λ ds. HearsDrops g.H.HearDrop.hears c.loop-i.h ds c.drop_term.new.h in
    leads_next g.H.HearDrop.can_hear g.H.HearDrop.hears (flat_map f ts) (flat_map f (drop at ts)) (f (get_or ts at (pos 0, 0))) (flat_map f (drop (at + 1) ts)) c.args.h.now c.loop-i.h c.drop_term.new.h
    (drops_more f ts at (pos 0, 0) inside) c.loop-i.invariant
    (subst P (sym (ap f (get_or-zip c.args.coeffs.now c.args.vars.now at same) ∙ (λ i. f (sym term.coeff i, sym term.var i)))) c.drop_term.ensures)

pub returns : goal.returns
returns g c =
    let at = c.loop-i.i in
    let ts = zip c.args.coeffs.now c.args.vars.now in
    let f : Term → List Drop = term_drops c.args.m.now c.args.equation.limit c.args.equation.sum.least c.args.equation.sum.greatest in
    let outside : length ts ≤ at = (let count = c.len-i-end.ensures in let all = length-zip c.args.coeffs.now c.args.vars.now c.requires.linear.same_length in let same = c.requires.linear.same_length in let more = c.loop-i-test.false in omega arith) in
    leads_end g.H.HearDrop.can_hear g.H.HearDrop.hears (flat_map f ts) (flat_map f (drop at ts)) c.args.h.now c.loop-i.h (drops_end f ts at outside) c.loop-i.invariant
