-- What one round of the kernels that are asked does.
use Rattle.std.specs.Prelude.{◌≡◌, ◌≢◌, List, length}
use Rattle.std.specs.List.{All}
use Rattle.interval.specs.Boxes.{Bounds, IsProper, IsCrossed}
use Rattle.guarded_tell.specs.declared.kernel.Kernel.{Kernel}
use Rattle.guarded_tell.specs.Kernels.{IsClosedUnder}
use Rattle.fixpoint_laws.specs.Rounds.{HaveRun}
use Rattle.fixpoint_laws.specs.OneRound.{IsHeardBetween}
use Rattle.moved_fixpoint.specs.declared.rests.Rests.{Rests}
use Rattle.moved_fixpoint.specs.declared.joiner.Progress.{Progress}
use Rattle.moved_fixpoint.specs.declared.joiner.Progress.TheVariants.{Still, Moved, Crossed}
use Rattle.moved_fixpoint.specs.Moved.{Set, count_of, IsEmpty}
use Rattle.moved_fixpoint.specs.Asked.{AreAtRest}
use Rattle.moved_fixpoint.specs.Heard.{GoesOn}

-- a round led from a proper box to another: no closed box was lost; unless it is over before its end, each kernel was heard
-- on the way, and is quiet there if it isn't asked, and rests there if it isn't open or alert; where nothing moved, each is
-- quiet, and none is asked
pub record IsRound (kernels : List Kernel) (before after : Bounds) (asked : Set) (rests : Rests) (progress : Progress) : Type 0 where
  pub run : HaveRun kernels before after
  pub same_count : count_of asked ≡ length kernels
  pub proper : GoesOn progress → IsProper after
  pub at_rest : GoesOn progress → AreAtRest asked rests after kernels
  pub heard : GoesOn progress → All (λ k. IsHeardBetween k before after) kernels
  pub still : progress ≡ Still → (after ≡ before) × All (λ k. IsClosedUnder k after) kernels × IsEmpty asked
  pub moves : progress ≡ Moved → after ≢ before
  pub crossed : progress ≡ Crossed → IsCrossed after
