-- What is known of the boxes of a free search.
use Rattle.std.specs.Prelude.{◌≤ℤ◌, ℕ, List, length, All}
use Rattle.interval.specs.Boxes.{Bounds, IsProper}
use Rattle.guarded_tell.specs.declared.kernel.Kernel.{Kernel}
use Rattle.fixpoint_laws.specs.Fixpoints.{IsClosed}
use Rattle.fixpoint_laws.specs.Changes.{IsTightening}
use Rattle.trailed_box.specs.declared.trail.Part.{Part}
use Rattle.trailed_box.specs.Trailed.{Left, IsPart}
use Rattle.narrowing.specs.Narrowers.{Fits, AreQuietUnlessNoted, Knows, LetsRest, LetRest}
use Rattle.free_search.specs.declared.searcher.Searcher.{Searcher}

-- bounds of a variable of the box as tight as its own, which leave some number
pub record IsTighter (b : Bounds) (part : Part) : Type 0 where
  pub is_part : IsPart (length b) part.var part.low part.high
  pub tightens : IsTightening b part.var part.low part.high
  pub some : part.low ≤ℤ part.high

-- how many variables its boxes have
abbrev pub count_of : Searcher → ℕ
count_of s = length s.boxes.current

-- the boxes that are left are closed, the narrower serves the kernels, and it knows which rest in those boxes
pub record AreLeft (kernels : List Kernel) (s : Searcher) : Type 0 where
  pub closed : All (λ (l : Left). IsClosed l.base kernels) s.boxes.stack
  pub fits : Fits s.narrower kernels (count_of s)
  pub let_rest : LetRest s.narrower kernels s.boxes.stack

-- the current box can be narrowed: some number is left for each variable, a kernel that narrows it names a variable that is
-- noted, and it is known which rest
pub record IsReady (kernels : List Kernel) (s : Searcher) : Type 0 where
  pub left : AreLeft kernels s
  pub proper : IsProper s.boxes.current
  pub quiet : AreQuietUnlessNoted s.narrower kernels s.boxes.current
  pub knows : Knows s.narrower kernels s.boxes.current

-- the current box is closed, and the kernels that the narrower lets rest do so there
pub record IsSettled (kernels : List Kernel) (s : Searcher) : Type 0 where
  pub left : AreLeft kernels s
  pub closed : IsClosed s.boxes.current kernels
  pub rests : LetsRest s.narrower kernels s.boxes.current
