-- The test of the code is that of the definition, and so is the bound beside the low.
use Rattle.std.proofs.Common.{◌≡◌, pos, ◌+ℤ◌, ◌<◌, ◌∙◌, List, [], ◌∷◌, length, FitsSigned, ap, sym, subst, rules}
use Rattle.std.proofs.lemmas.Int.{to_z-of_z}
use mir.Syntax.{w64}
use Rattle.tells.specs.declared.tell.Tell.{Tell}
use Rattle.interval.specs.Boxes.{low_of}
use Rattle.guarded_tell.specs.Words.{when, low_tell}
use Rattle.guarded_tell.specs.Hearing.{MayHearAll, HearsAll}
use Rattle.sum_tells.specs.Equality.{is_product}
use Rattle.tell_laws.specs.Narrowing.{narrowing}
use Rattle.sum_tells.proofs.EqualityCode.{coded_next}
use Rattle.kernel_visits.proofs.differences.narrow_low_apart.Goals as goal

pub tell_where-requires-clause-variable : goal.tell_where-requires-clause-variable
tell_where-requires-clause-variable g c = subst (λ (t : Tell). t.var < length c.args.b.now) (sym c.low_tell-tell.ensures) c.requires.variable

pub tell_where-requires-clause-hearer : goal.tell_where-requires-clause-hearer
tell_where-requires-clause-hearer g c =
    let z = low_of c.args.b.now c.args.var in
    let coeff = to_z-of_z w64 c.args.coeff c.ranges.coeff in
    let product = to_z-of_z w64 c.args.product c.ranges.product in
    let fits : FitsSigned w64 c.low-low.result = search rules in
    let value = to_z-of_z w64 c.low-low.result fits ∙ c.low-low.ensures.value in
    let test : c.is_product.result ≡ is_product c.args.coeff z c.args.product = c.is_product.ensures ∙ (λ i. is_product (coeff i) (value i) (product i)) in
    let tell : c.low_tell-tell.result ≡ low_tell c.args.var (z +ℤ pos 1) = c.low_tell-tell.ensures ∙ ap (low_tell c.args.var) (coded_next c.low-low.result z c.low-low.ensures.in_range c.low-low.ensures.value) in
    let P : List Tell → Type 0 = λ ts. MayHearAll g.H.Hear.can_hear g.H.Hear.hears c.args.h.now ts in
    subst P (λ i. narrowing c.args.b.now (when (sym test i) (sym tell i ∷ []))) c.requires.hearer

pub returns : goal.returns
returns g c =
    let z = low_of c.args.b.now c.args.var in
    let coeff = to_z-of_z w64 c.args.coeff c.ranges.coeff in
    let product = to_z-of_z w64 c.args.product c.ranges.product in
    let fits : FitsSigned w64 c.low-low.result = search rules in
    let value = to_z-of_z w64 c.low-low.result fits ∙ c.low-low.ensures.value in
    let test : c.is_product.result ≡ is_product c.args.coeff z c.args.product = c.is_product.ensures ∙ (λ i. is_product (coeff i) (value i) (product i)) in
    let tell : c.low_tell-tell.result ≡ low_tell c.args.var (z +ℤ pos 1) = c.low_tell-tell.ensures ∙ ap (low_tell c.args.var) (coded_next c.low-low.result z c.low-low.ensures.in_range c.low-low.ensures.value) in
    let P : List Tell → Type 0 = λ ts. HearsAll g.H.Hear.hears c.args.h.now ts c.tell_where.new.h in
    subst P (λ i. narrowing c.args.b.now (when (test i) (tell i ∷ []))) c.tell_where.ensures
