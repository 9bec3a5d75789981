-- The bound that is told is the product's, and where none is told, it wouldn't narrow the box.
use Rattle.std.proofs.Common.{◌≡◌, [], ◌∷◌, ◌++◌, ◌∙◌, ℤ, ◌*ℤ◌, subst, to_z, of_z, rules, arith}
use Rattle.std.proofs.lemmas.Int.{ints}
use mir.Syntax.{w64}
use Rattle.interval.specs.Limits.{IsBound}
use Rattle.interval.specs.Boxes.{high_of}
use Rattle.tells.specs.declared.tell.Tell.{Tell}
use Rattle.tells.specs.Words.{high_tell}
use Rattle.tell_laws.specs.Narrowing.{narrowing}
use Rattle.seen_tells.specs.Few.{AreFew}
use Rattle.seen_tells.proofs.NaturalLaws.{read, read_wide, without_greatest_product}
use Rattle.seen_tells.proofs.product.with_greatest_product.Goals as goal

pub returns-then-greatest-high : goal.returns-then-greatest-high
returns-then-greatest-high c ts few =
    let first = read c.high.result (search rules) ∙ c.high.ensures.value in
    let second = read c.high-2.result (search rules) ∙ c.high-2.ensures.value in
    let value = read_wide c.product-greatest.result (search rules) ∙ c.product-greatest.ensures ∙ (λ i. (first i *ℤ second i)) in
    let P : Tell → Type 0 = λ t. AreFew (ts ++ narrowing c.args.b.now (t ∷ [])) c.with_tell.result in
    subst P (c.high_tell.ensures ∙ (λ i. high_tell c.args.z (value i))) (c.with_tell.ensures ts few)

pub returns-else-greatest-high : goal.returns-else-greatest-high
returns-else-greatest-high c ts few =
    let first = read c.high.result (search rules) ∙ c.high.ensures.value in
    let second = read c.high-2.result (search rules) ∙ c.high-2.ensures.value in
    let value : to_z w64 (of_z w64 c.product-greatest.result) ≡ high_of c.args.b.now c.args.x *ℤ high_of c.args.b.now c.args.y = read c.product-greatest.result (search rules) ∙ c.product-greatest.ensures ∙ (λ i. (first i *ℤ second i)) in
    let own = read c.high-3.result (search rules) ∙ c.high-3.ensures.value in
    let P : ℤ → Type 0 = λ n. IsBound n in
    let test = c.if-greatest-high.false in
    without_greatest_product c.args.b.now c.args.x c.args.y c.args.z c.requires.natural c.law_clamp_order.ensures (subst P c.high-3.ensures.value c.high-3.ensures.in_range) (omega (arith, ints)) ts _ few
