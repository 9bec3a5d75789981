use Rattle.std.proofs.Common.{◌-◌}
use Rattle.tree_cover.proofs.cover.+cover_below.Given as goal

abbrev pub decreases-cover_below : goal.decreases-cover_below
decreases-cover_below l = 62 - l.depth
