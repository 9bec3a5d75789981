-- One after the other.
use Rattle.std.proofs.Common.{[], refl, ◌∙◌, rules}
use Rattle.std.specs.Int.{int_max}
use Rattle.tells.specs.Words.{low_tell, high_tell}
use Rattle.seen_tells.proofs.NaturalLaws.{read, read_wide}
use Rattle.seen_tells.proofs.GreatestLaws.{few_of_two}
use Rattle.seen_tells.proofs.greatest.greatest_tells.Goals as goal

pub returns : goal.returns
returns c =
    let x_low = read c.low.result (search rules) ∙ c.low.ensures.value in
    let y_low = read c.low-2.result (search rules) ∙ c.low-2.ensures.value in
    let x_high = read c.high.result (search rules) ∙ c.high.ensures.value in
    let y_high = read c.high-2.result (search rules) ∙ c.high-2.ensures.value in
    let low = read_wide c.larger.result (search rules) ∙ c.larger.ensures ∙ (λ i. int_max (x_low i) (y_low i)) in
    let high = read_wide c.larger-2.result (search rules) ∙ c.larger-2.ensures ∙ (λ i. int_max (x_high i) (y_high i)) in
    let first = read_wide c.high-3.result (search rules) ∙ c.high-3.ensures.value in
    let second = read_wide c.high-4.result (search rules) ∙ c.high-4.ensures.value in
    few_of_two c.args.b.now c.args.m c.args.x c.args.y _ _ _ _ c.with_sole_reaching.result (c.low_tell.ensures ∙ (λ i. low_tell c.args.m (low i))) (c.high_tell.ensures ∙ (λ i. high_tell c.args.m (high i)))
    (c.high_tell-2.ensures ∙ (λ i. high_tell c.args.x (first i))) (c.high_tell-3.ensures ∙ (λ i. high_tell c.args.y (second i)))
    (c.with_sole_reaching.ensures _ (c.with_tell-seen-4.ensures _ (c.with_tell-seen-3.ensures _ (c.with_tell-seen-2.ensures _ (c.with_tell-seen.ensures [] (refl, refl))))))
