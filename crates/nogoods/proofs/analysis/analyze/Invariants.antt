use Rattle.std.proofs.Common.{◌≡◌, length}
use Rattle.std.specs.List.{All}
use Rattle.literals.specs.Literals.{IsPlaced}
use Rattle.nogoods.specs.Learnings.{GoesOver}
use Rattle.nogoods.proofs.analysis.analyze.Given as goal

abbrev pub invariant-back : goal.invariant-back
invariant-back l = record {
  nogood : GoesOver l.what.kernels.now l.what.space.now l.initial.literals l.literals;
  placed : All (IsPlaced (length l.what.space.now)) l.literals;
  same_count : length l.past ≡ length l.initial.past;
}

abbrev pub decreases-back : goal.decreases-back
decreases-back l = l.place
