-- One who is done hears the rest without a change.
use Rattle.short_tells.proofs.short_terms.narrow_terms.Goals as goal

pub returns-else-not-is_done : goal.returns-else-not-is_done
returns-else-not-is_done g c = c.if-not-is_done.ensures _
