-- The bound that is told is the product's, and where none is told, it wouldn't narrow the box.
use Rattle.std.proofs.Common.{◌≡◌, [], ◌∷◌, ◌++◌, ◌∙◌, ℤ, ◌*ℤ◌, subst, to_z, of_z, rules, arith}
use Rattle.std.proofs.lemmas.Int.{ints}
use mir.Syntax.{w64}
use Rattle.interval.specs.Limits.{IsBound}
use Rattle.interval.specs.Boxes.{low_of}
use Rattle.tells.specs.declared.tell.Tell.{Tell}
use Rattle.tells.specs.Words.{low_tell}
use Rattle.tell_laws.specs.Narrowing.{narrowing}
use Rattle.seen_tells.specs.Few.{AreFew}
use Rattle.seen_tells.proofs.NaturalLaws.{read, read_wide, without_least_product}
use Rattle.seen_tells.proofs.product.with_least_product.Goals as goal

pub returns-then-low-least : goal.returns-then-low-least
returns-then-low-least c ts few =
    let first = read c.low.result (search rules) ∙ c.low.ensures.value in
    let second = read c.low-2.result (search rules) ∙ c.low-2.ensures.value in
    let value = read_wide c.product-least.result (search rules) ∙ c.product-least.ensures ∙ (λ i. (first i *ℤ second i)) in
    let P : Tell → Type 0 = λ t. AreFew (ts ++ narrowing c.args.b.now (t ∷ [])) c.with_tell.result in
    subst P (c.low_tell.ensures ∙ (λ i. low_tell c.args.z (value i))) (c.with_tell.ensures ts few)

pub returns-else-low-least : goal.returns-else-low-least
returns-else-low-least c ts few =
    let first = read c.low.result (search rules) ∙ c.low.ensures.value in
    let second = read c.low-2.result (search rules) ∙ c.low-2.ensures.value in
    let value : to_z w64 (of_z w64 c.product-least.result) ≡ low_of c.args.b.now c.args.x *ℤ low_of c.args.b.now c.args.y = read c.product-least.result (search rules) ∙ c.product-least.ensures ∙ (λ i. (first i *ℤ second i)) in
    let own = read c.low-3.result (search rules) ∙ c.low-3.ensures.value in
    let P : ℤ → Type 0 = λ n. IsBound n in
    let test = c.if-low-least.false in
    without_least_product c.args.b.now c.args.x c.args.y c.args.z c.requires.natural c.law_clamp_order.ensures (subst P c.low-3.ensures.value c.low-3.ensures.in_range) (omega (arith, ints)) ts _ few
