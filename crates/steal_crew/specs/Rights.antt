-- What a hand may do at the deque of another hand.
use Rattle.std.specs.Prelude.{ℕ, List}
use Rattle.std.specs.declared.alloc.Global.{Global}
use Rattle.atomic_blocks.specs.Lent.{RowsId}
use Rattle.crossbeam_deque.specs.Handles.{view, stealer_deque}
use Rattle.steal_crew.specs.declared.victim.Victim.{Victim}

-- the number of the hand whose deque it is, which deque that is, the share of its 1024 parts, and the numbers that were dealt
-- to it
pub record Right : Type 0 where
  pub of : ℕ
  pub deque : RowsId × Global
  pub parts : ℕ
  pub dealt : List ℕ

abbrev pub right_of : Victim → Right
right_of v = record { of = v.of; deque = stealer_deque v.stealer; parts = (view v.pass).parts; dealt = (view v.pass).dealt }

-- the numbers that were taken by it
abbrev pub taken_by : Victim → List ℕ
taken_by v = (view v.pass).taken

-- the numbers that were dealt to its deque
abbrev pub dealt_to : Victim → List ℕ
dealt_to v = (view v.pass).dealt
