-- The number at the greatest member.
use Rattle.std.proofs.Common.{ℤ, ◌∙◌, sym, ap}
use Rattle.bit_domain.proofs.DomLaws.{no_ends, greatest_end, coded_sum}
use Rattle.bit_domain.proofs.ends.greatest_from.Goals as goal

pub returns-then-set-eq0-clause-value : goal.returns-then-set-eq0-clause-value
returns-then-set-eq0-clause-value c = sym (ap (λ (p : ℤ × ℤ). p.1) (no_ends c.args.base c.args.set c.if-set-eq0.true))

pub returns-else-set-eq0-clause-value : goal.returns-else-set-eq0-clause-value
returns-else-set-eq0-clause-value c =
    coded_sum c.args.base c.greatest-member.result c.requires.0 c.greatest-member.ensures.small
    ∙ sym (greatest_end c.args.base c.args.set c.greatest-member.result c.if-set-eq0.false c.requires.1 c.greatest-member.ensures)
