use Rattle.std.proofs.Common.{◌≡◌, length}
use Rattle.interval.specs.Boxes.{IsInside}
use Rattle.narrowing.proofs.Copies.{AreSame, IsBetween}
use Rattle.narrowing.proofs.lanes.take_bounds.Given as goal

abbrev pub invariant-loop-v : goal.invariant-loop-v
invariant-loop-v l = record {
  stack : l.b.stack ≡ l.initial.b.stack;
  same_length : length l.b.current ≡ length l.initial.b.current;
  copied : AreSame l.b.current l.other l.v;
  between : IsInside l.other l.initial.b.current → IsBetween l.other l.b.current l.initial.b.current;
}
