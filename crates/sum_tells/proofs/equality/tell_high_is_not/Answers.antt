-- The test of the code is that of the definition, and so is the bound beside the high.
use Rattle.std.proofs.Common.{pos, ◌-ℤ◌, ◌∙◌, FitsSigned, ap, rules}
use mir.Syntax.{w64}
use Rattle.interval.specs.Boxes.{high_of}
use Rattle.tells.specs.Words.{high_tell}
use Rattle.sum_tells.specs.Equality.{is_product}
use Rattle.tell_laws.proofs.HearingLaws.{may_one, hears_one}
use Rattle.sum_tells.proofs.EqualityCode.{coded_previous, is_product_is}
use Rattle.sum_tells.proofs.equality.tell_high_is_not.Goals as goal

pub hear-requires : goal.hear-requires
hear-requires g c =
    let z = high_of c.args.b.now c.args.term.var in
    let coeff : FitsSigned w64 c.args.term.coeff = search rules in
    let test = is_product_is c.args.term.coeff c.high-high.result z c.args.product coeff c.high-high.ensures.in_range c.ranges.product c.high-high.ensures.value c.if-is_product.ensures in
    let tell = c.high_tell.ensures ∙ ap (high_tell c.args.term.var) (coded_previous c.high-high.result z c.high-high.ensures.in_range c.high-high.ensures.value) in
    may_one g.H.Hear.can_hear g.H.Hear.hears c.args.h.now (is_product c.args.term.coeff z c.args.product) (high_tell c.args.term.var (z -ℤ pos 1)) c.high_tell.result test tell c.requires.hearer

pub returns-then-is_product : goal.returns-then-is_product
returns-then-is_product g c =
    let z = high_of c.args.b.now c.args.term.var in
    let coeff : FitsSigned w64 c.args.term.coeff = search rules in
    let test = is_product_is c.args.term.coeff c.high-high.result z c.args.product coeff c.high-high.ensures.in_range c.ranges.product c.high-high.ensures.value c.if-is_product.ensures in
    let tell = c.high_tell.ensures ∙ ap (high_tell c.args.term.var) (coded_previous c.high-high.result z c.high-high.ensures.in_range c.high-high.ensures.value) in
    hears_one g.H.Hear.can_hear g.H.Hear.hears c.args.h.now c.hear.new.self (is_product c.args.term.coeff z c.args.product) (high_tell c.args.term.var (z -ℤ pos 1)) c.high_tell.result test tell c.hear.ensures
