-- The last term joins the sums of the front, and all terms are few.
use Rattle.std.proofs.Common.{◌+◌, ◌≤◌, ◌∙◌, sym, ap, ℤ, pos, length, arith}
use Rattle.std.proofs.lemmas.Int.{ints}
use Rattle.std.specs.List.{zip}
use Rattle.sum_tells.specs.Linear.{least_of, greatest_of}
use Rattle.sum_tells.proofs.ProductLaws.{coded_number, terms_small, one_more_small}
use Rattle.sum_tells.proofs.PartedLaws.{linear-last, length-last, sum_over-last}
use Rattle.sum_tells.proofs.parted.parted_range.Goals as goal

few : (c : goal.After-sum_with) → length c.args.coeffs.now + 1 ≤ Rattle.sum_tells.specs.Linear.term_limit
few c = rw (sym (length-last c.args.coeffs.now c.args.last.0)) c.requires.linear.short

pub returns-clause-least : goal.returns-clause-least
returns-clause-least c =
    let number = coded_number c.args.last.0 (linear-last c.args.coeffs.now c.args.vars.now c.args.last.0 c.args.last.1 (pos 0) c.requires.linear) in
    let term = c.term_range-term.ensures.least ∙ ap (λ (z : ℤ). least_of c.args.b.now (z, c.args.last.1)) number in
    let sum = sum_over-last (least_of c.args.b.now) (zip c.args.coeffs.now c.args.vars.now) c.args.last in
    omega (arith, ints, c.sum_with.ensures.least, c.sum_range.ensures.least)

pub returns-clause-greatest : goal.returns-clause-greatest
returns-clause-greatest c =
    let number = coded_number c.args.last.0 (linear-last c.args.coeffs.now c.args.vars.now c.args.last.0 c.args.last.1 (pos 0) c.requires.linear) in
    let term = c.term_range-term.ensures.greatest ∙ ap (λ (z : ℤ). greatest_of c.args.b.now (z, c.args.last.1)) number in
    let sum = sum_over-last (greatest_of c.args.b.now) (zip c.args.coeffs.now c.args.vars.now) c.args.last in
    omega (arith, ints, c.sum_with.ensures.greatest, c.sum_range.ensures.greatest)

pub returns-clause-least_in_range : goal.returns-clause-least_in_range
returns-clause-least_in_range c =
    let count = length c.args.coeffs.now in
    let small = one_more_small c.sum_range.result.least c.term_range-term.result.least count c.sum_range.ensures.least_small c.term_range-term.ensures.least_in_range in
    let whole = terms_small c.sum_with.result.least (count + 1) (count + 1) (rw c.sum_with.ensures.least small) (omega arith) (few c) in
    whole

pub returns-clause-greatest_in_range : goal.returns-clause-greatest_in_range
returns-clause-greatest_in_range c =
    let count = length c.args.coeffs.now in
    let small = one_more_small c.sum_range.result.greatest c.term_range-term.result.greatest count c.sum_range.ensures.greatest_small c.term_range-term.ensures.greatest_in_range in
    terms_small c.sum_with.result.greatest (count + 1) (count + 1) (rw c.sum_with.ensures.greatest small) (omega arith) (few c)
