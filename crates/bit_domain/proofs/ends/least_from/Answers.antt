-- The number at the least member.
use Rattle.std.proofs.Common.{ℤ, ◌∙◌, sym, ap}
use Rattle.bit_domain.proofs.DomLaws.{no_ends, least_end, coded_sum}
use Rattle.bit_domain.proofs.ends.least_from.Goals as goal

pub returns-then-set-eq0-clause-value : goal.returns-then-set-eq0-clause-value
returns-then-set-eq0-clause-value c = sym (ap (λ (p : ℤ × ℤ). p.0) (no_ends c.args.base c.args.set c.if-set-eq0.true))

pub returns-else-set-eq0-clause-value : goal.returns-else-set-eq0-clause-value
returns-else-set-eq0-clause-value c =
    coded_sum c.args.base c.least-member.result c.requires.0 c.least-member.ensures.small
    ∙ sym (least_end c.args.base c.args.set c.least-member.result c.least-member.ensures)
