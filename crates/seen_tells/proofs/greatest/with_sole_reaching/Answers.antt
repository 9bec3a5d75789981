-- One that can be as great, where the other can't, is told so.
use Rattle.std.proofs.Common.{◌∙◌, rules, arith}
use Rattle.std.proofs.lemmas.Int.{ints}
use Rattle.tells.specs.Words.{low_tell}
use Rattle.seen_tells.proofs.NaturalLaws.{read, read_wide}
use Rattle.seen_tells.proofs.GreatestLaws.{both_reach, first_alone, second_alone, neither_reaches, few_without, few_with}
use Rattle.seen_tells.proofs.greatest.with_sole_reaching.Goals as goal

pub returns-then-low-high-2 : goal.returns-then-low-high-2
returns-then-low-high-2 c ts few =
    let low = read c.low-low.result (search rules) ∙ c.low-low.ensures.value in
    let first = read c.high.result (search rules) ∙ c.high.ensures.value in
    let second = read c.high-then-low-high.result (search rules) ∙ c.high-then-low-high.ensures.value in
    let reaches = c.if-low-high.true in
    let also = c.if-low-high-2.true in
    few_without c.args.b.now c.args.m c.args.x c.args.y ts c.args.seen (both_reach c.args.b.now c.args.m c.args.x c.args.y (omega (arith, ints)) (omega (arith, ints))) few

pub returns-else-low-high-2 : goal.returns-else-low-high-2
returns-else-low-high-2 c ts few =
    let low = read c.low-low.result (search rules) ∙ c.low-low.ensures.value in
    let first = read c.high.result (search rules) ∙ c.high.ensures.value in
    let second = read c.high-then-low-high.result (search rules) ∙ c.high-then-low-high.ensures.value in
    let reaches = c.if-low-high.true in
    let not = c.if-low-high-2.false in
    let told = read_wide c.low-low.result (search rules) ∙ c.low-low.ensures.value in
    few_with c.args.b.now c.args.m c.args.x c.args.y _ _ ts c.with_tell.result (first_alone c.args.b.now c.args.m c.args.x c.args.y (omega (arith, ints)) (omega (arith, ints)))
    (c.low_tell.ensures ∙ (λ i. low_tell c.args.x (told i))) (c.with_tell.ensures ts few)

pub returns-then-low-high-3 : goal.returns-then-low-high-3
returns-then-low-high-3 c ts few =
    let low = read c.low-low.result (search rules) ∙ c.low-low.ensures.value in
    let first = read c.high.result (search rules) ∙ c.high.ensures.value in
    let second = read c.high-else-low-high.result (search rules) ∙ c.high-else-low-high.ensures.value in
    let not = c.if-low-high.false in
    let reaches = c.if-low-high-3.true in
    let told = read_wide c.low-low.result (search rules) ∙ c.low-low.ensures.value in
    few_with c.args.b.now c.args.m c.args.x c.args.y _ _ ts c.with_tell-then-low-high-3.result (second_alone c.args.b.now c.args.m c.args.x c.args.y (omega (arith, ints)) (omega (arith, ints)))
    (c.low_tell-then-low-high-3.ensures ∙ (λ i. low_tell c.args.y (told i))) (c.with_tell-then-low-high-3.ensures ts few)

pub returns-else-low-high-3 : goal.returns-else-low-high-3
returns-else-low-high-3 c ts few =
    let low = read c.low-low.result (search rules) ∙ c.low-low.ensures.value in
    let first = read c.high.result (search rules) ∙ c.high.ensures.value in
    let second = read c.high-else-low-high.result (search rules) ∙ c.high-else-low-high.ensures.value in
    let not = c.if-low-high.false in
    let neither = c.if-low-high-3.false in
    few_without c.args.b.now c.args.m c.args.x c.args.y ts c.args.seen (neither_reaches c.args.b.now c.args.m c.args.x c.args.y (omega (arith, ints)) (omega (arith, ints))) few
