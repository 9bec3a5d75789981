-- The first place, or one more.
use Rattle.std.proofs.Common.{Option, subst}
use Rattle.element_tells.specs.declared.element.Hull.{Hull}
use Rattle.element_tells.specs.Hull.{IsHullOf}
use Rattle.element_tells.proofs.ElementTells.{hull_first, hull_more}
use Rattle.element_tells.proofs.element.hull_with.Goals as goal

pub returns-in-None : goal.returns-in-None
returns-in-None c = λ ps is.
    let P : Option Hull → Type 0 = λ o. IsHullOf c.args.b.now ps o in
    let at = c.hull_at.ensures in
    hull_first c.args.b.now ps c.args.place c.args.y c.hull_at.result (subst P c.in-None.is is) at.first at.last at.low at.high

pub returns-in-Some : goal.returns-in-Some
returns-in-Some c = λ ps is.
    let P : Option Hull → Type 0 = λ o. IsHullOf c.args.b.now ps o in
    let more = c.wider.ensures in
    hull_more c.args.b.now ps c.args.place c.args.y c.in-Some.hull c.wider.result (subst P c.in-Some.is is) more.first more.last more.low more.high
