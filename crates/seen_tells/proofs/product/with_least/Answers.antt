-- The bound that is told is the quotient's, and where none is told, it wouldn't narrow the box.
use Rattle.std.proofs.Common.{◌≡◌, [], ◌∷◌, ◌++◌, ◌∙◌, ◌*ℤ◌, subst, to_z, of_z, rules, arith}
use Rattle.std.proofs.lemmas.Int.{ints}
use mir.Syntax.{w64}
use Rattle.interval.specs.Quotients.{ceiling_of}
use Rattle.interval.specs.Boxes.{low_of, high_of}
use Rattle.tells.specs.declared.tell.Tell.{Tell}
use Rattle.tells.specs.Words.{low_tell}
use Rattle.tell_laws.specs.Narrowing.{narrowing}
use Rattle.seen_tells.specs.Few.{AreFew}
use Rattle.seen_tells.proofs.NaturalLaws.{read, read_wide, without_least}
use Rattle.seen_tells.proofs.product.with_least.Goals as goal

pub returns-then-product-low : goal.returns-then-product-low
returns-then-product-low c ts few =
    let dividend = read c.low-then-product-low.result (search rules) ∙ c.low-then-product-low.ensures.value in
    let divisor = read c.high-then-product-low.result (search rules) ∙ c.high-then-product-low.ensures.value in
    let value = read_wide c.ceiling.result (search rules) ∙ c.ceiling.ensures ∙ (λ i. ceiling_of (dividend i) (divisor i)) in
    let P : Tell → Type 0 = λ t. AreFew (ts ++ narrowing c.args.b.now (t ∷ [])) c.with_tell.result in
    subst P (c.low_tell.ensures ∙ (λ i. low_tell c.args.x (value i))) (c.with_tell.ensures ts few)

pub returns-else-product-low : goal.returns-else-product-low
returns-else-product-low c ts few =
    let first = read c.low.result (search rules) ∙ c.low.ensures.value in
    let second = read c.high.result (search rules) ∙ c.high.ensures.value in
    let value : to_z w64 (of_z w64 c.product.result) ≡ low_of c.args.b.now c.args.x *ℤ high_of c.args.b.now c.args.y = read c.product.result (search rules) ∙ c.product.ensures ∙ (λ i. (first i *ℤ second i)) in
    let own = read c.low-2.result (search rules) ∙ c.low-2.ensures.value in
    let test = c.if-product-low.false in
    without_least c.args.b.now c.args.x c.args.y c.args.z c.requires.natural c.law_clamp_order.ensures c.law_quotient_order.ensures (omega (arith, ints)) ts _ few
