use Rattle.std.proofs.Common.{sym, subst}
use Rattle.guarded_tell.specs.Words.{Side, Low, High}
use Rattle.kernel_visits.specs.Sides.{Reads}
use Rattle.moved_set.proofs.KeyLaws.{kind_read, kind_none}
use Rattle.moved_set.proofs.parts.kind_of.Goals as goal

pub returns-in-Some-Low : goal.returns-in-Some-Low
returns-in-Some-Low c = sym (kind_read c.args.kernel.now c.args.place Low (subst (λ (s : Side). Reads c.args.kernel.now c.args.place s) c.in-Some-Low.field-0-is c.in-Some-Low.ensures.side))

pub returns-in-Some-High : goal.returns-in-Some-High
returns-in-Some-High c = sym (kind_read c.args.kernel.now c.args.place High (subst (λ (s : Side). Reads c.args.kernel.now c.args.place s) c.in-Some-High.field-0-is c.in-Some-High.ensures.side))

pub returns-in-None : goal.returns-in-None
returns-in-None c = sym (kind_none c.args.kernel.now c.args.place c.in-None.ensures.none)
