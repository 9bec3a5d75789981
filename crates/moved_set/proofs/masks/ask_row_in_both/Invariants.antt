use Rattle.std.proofs.Common.{◌||◌, ◌&&◌, false, get_or, take}
use Rattle.moved_set.specs.Words.{names}
use Rattle.moved_set.specs.Asking.{IsAsked, some_uses}
use Rattle.moved_set.proofs.masks.ask_row_in_both.Given as goal

abbrev pub invariant-loop-list : goal.invariant-loop-list
invariant-loop-list l = IsAsked l.fn.asked (λ j. (names l.row j || some_uses l.users j (take l.list-index l.lists)) && (get_or l.one.current j false && get_or l.other.current j false)) l.asked
