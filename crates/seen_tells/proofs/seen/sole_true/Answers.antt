-- A literal that is neither sure nor out is told true.
use Rattle.std.proofs.Common.{◌∙◌, sym}
use Rattle.seen_tells.proofs.seen.sole_true.Goals as goal

pub returns-else-stands_false : goal.returns-else-stands_false
returns-else-stands_false c = (c.last.ensures.last, sym c.if-stands_true.ensures, sym c.if-stands_false.ensures, c.last.ensures.tell ∙ c.tell_true.ensures)
