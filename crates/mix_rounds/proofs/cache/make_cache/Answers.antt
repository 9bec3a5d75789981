use Rattle.std.proofs.Common.{subst, sym, ◌∙◌}
use Rattle.interval.specs.Boxes.{IsInRange}
use Rattle.mix_rounds.proofs.cache.make_cache.Goals as goal

pub from_pairs-requires : goal.from_pairs-requires
from_pairs-requires c = subst IsInRange (sym (c.as_slice.ensures.value ∙ c.in_ok-pairs.ensures)) (c.law_hull_inside.ensures.in_range c.args.start.now c.len-length.ensures.in_range)
