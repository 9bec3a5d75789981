-- Bits over the low, one for each number.
use Rattle.std.proofs.Common.{◌∙◌, sym, pos, ◌+ℤ◌}
use Rattle.bit_domain.specs.declared.dom.Dom.TheVariants.{Bits}
use Rattle.bit_domain.proofs.DomLaws.{short_between, coded}
use Rattle.bit_domain.proofs.mix.short_between.Goals as goal

pub returns : goal.returns
returns c =
    let low = coded c.args.low c.requires.low_in_range in
    let set = c.first_numbers.ensures in
    let high = coded c.args.high c.requires.high_in_range in
    let apart = (λ i. sym low i +ℤ pos c.distance-last.result) ∙ c.distance-last.ensures.value ∙ high in
    (λ i. Bits (low i) (set i)) ∙ sym (short_between c.args.low c.args.high c.distance-last.result apart c.distance-last.ensures.small)
