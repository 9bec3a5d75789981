use Rattle.std.proofs.Common.{◌≡◌, ℕ, length, take}
use Rattle.moved_set.specs.Sets.{IsIn}
use Rattle.moved_fixpoint.specs.Asked.{AreAskedFor}
use Rattle.moved_fixpoint.proofs.drawing.ask_each.Given as goal

abbrev pub invariant-loop-v : goal.invariant-loop-v
invariant-loop-v l = record {
  count : length l.asked ≡ length l.initial.asked;
  kept : (j : ℕ) → IsIn l.initial.asked j → IsIn l.asked j;
  asked : AreAskedFor l.masks l.rests l.b (take l.v-index l.variables) l.asked;
}
