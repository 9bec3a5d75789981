use Rattle.std.proofs.Common.{arith}
use Rattle.moved_set.proofs.BitLaws.{first_behind, first_beyond}
use Rattle.moved_set.proofs.bits.next_bit.Goals as goal

pub returns-then-place-end : goal.returns-then-place-end
returns-then-place-end c =
    first_behind c.args.words.now c.args.from c.args.count c.bits_from-bits.result c.first_word-place.result c.least_at-then-place-end.result
    c.requires.from c.if-bits-ne0.false c.bits_from-bits.ensures.others c.first_word-place.ensures.passed c.first_word-place.ensures.at_least
    c.least_at-then-place-end.ensures

pub returns : goal.returns
returns c =
    first_beyond c.args.words.now c.args.from c.args.count c.bits_from-bits.result c.end_of_page-end.result c.first_in_pages.result
    c.requires.from c.requires.words c.if-bits-ne0.false c.bits_from-bits.ensures.others (λ j a b. c.first_word-place.ensures.passed j a (omega (arith, c.if-place-end.false)))
    c.end_of_page-end.ensures c.first_in_pages.ensures
