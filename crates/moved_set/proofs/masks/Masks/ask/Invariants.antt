use Rattle.std.proofs.Common.{◌||◌, take}
use Rattle.moved_set.specs.Words.{names}
use Rattle.moved_set.specs.Asking.{IsAsked, row_of, some_uses}
use Rattle.moved_set.proofs.masks.Masks.ask.Given as goal

abbrev pub invariant-loop-list : goal.invariant-loop-list
invariant-loop-list l = IsAsked l.fn.asked (λ j. names (row_of l.self-inside.own l.v) j || some_uses l.self-inside.users j (take l.list-index l.list-items)) l.asked
