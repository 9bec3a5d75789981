use Rattle.constraint_model.proofs.RangeLaws.{have_ranges, ranges_unique, intervals_hold}
use Rattle.constraint_model.proofs.ranges.law_ranges.Goals as goal

pub returns : goal.returns
returns c = record { there = have_ranges; unique = ranges_unique; intervals = intervals_hold }
