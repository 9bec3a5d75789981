use Rattle.std.proofs.Common.{pos, negsuc, arith}
use Rattle.std.proofs.lemmas.Int.{ints}
use Rattle.fixpoint_tests.proofs.SmallKernels.{AreApart, two_ranges}
use Rattle.fixpoint_tests.proofs.drawn.ranges.Goals as goal

apart : AreApart (negsuc 8, negsuc 4) (pos 2, pos 5)
apart = record { lower_first = omega arith; lower_last = omega arith; upper_first = omega arith; upper_last = omega arith; lower_order = omega (arith, ints); upper_order = omega (arith, ints); apart = omega (arith, ints) }

apart_at_one : AreApart (negsuc 2, pos 0) (pos 3, pos 3)
apart_at_one = record { lower_first = omega arith; lower_last = omega arith; upper_first = omega arith; upper_last = omega arith; lower_order = omega (arith, ints); upper_order = omega (arith, ints); apart = omega (arith, ints) }

apart_by_one : AreApart (negsuc 0, negsuc 0) (pos 1, pos 9)
apart_by_one = record { lower_first = omega arith; lower_last = omega arith; upper_first = omega arith; upper_last = omega arith; lower_order = omega (arith, ints); upper_order = omega (arith, ints); apart = omega (arith, ints) }

pub set_of-requires : goal.set_of-requires
set_of-requires c = two_ranges (negsuc 8, negsuc 4) (pos 2, pos 5) apart

pub set_of-requires-in-1 : goal.set_of-requires-in-1
set_of-requires-in-1 c = two_ranges (negsuc 2, pos 0) (pos 3, pos 3) apart_at_one

pub set_of-requires-in_default : goal.set_of-requires-in_default
set_of-requires-in_default c = two_ranges (negsuc 0, negsuc 0) (pos 1, pos 9) apart_by_one
