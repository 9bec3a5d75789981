use Rattle.std.proofs.Common.{sym, ◌∙◌, arith}
use Rattle.moved_set.proofs.KeyLaws.{kind_below, kind_sided, kind_both}
use Rattle.moved_set.proofs.parts.kind_at.Goals as goal

pub returns-then-sided-clause-kind : goal.returns-then-sided-clause-kind
returns-then-sided-clause-kind c = c.kind_of.ensures ∙ sym (kind_sided c.args.kernel.now c.args.place (sym c.requires.sided ∙ c.if-sided.true))

pub returns-then-sided-clause-below : goal.returns-then-sided-clause-below
returns-then-sided-clause-below c =
    let is = c.kind_of.ensures ∙ sym (kind_sided c.args.kernel.now c.args.place (sym c.requires.sided ∙ c.if-sided.true)) in
    let small = kind_below c.args.kernel.now c.args.place in
    omega arith

pub returns-else-sided-clause-kind : goal.returns-else-sided-clause-kind
returns-else-sided-clause-kind c = sym (kind_both c.args.kernel.now c.args.place (sym c.requires.sided ∙ c.if-sided.false))
