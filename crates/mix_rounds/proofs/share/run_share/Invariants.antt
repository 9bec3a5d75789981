use Rattle.std.proofs.Common.{◌<◌, ℕ, false, length, get_or}
use Rattle.mix_store.specs.Seats.{seen_of}
use Rattle.mix_rounds.specs.Heard.{WasHeard}
use Rattle.mix_rounds.specs.Lanes.{FitsLength}
use Rattle.mix_rounds.specs.Steps.{Stepped}
use Rattle.mix_rounds.proofs.Naming.{HoldsAt}
use Rattle.mix_rounds.proofs.share.run_share.Given as goal

abbrev pub invariant-loop-j : goal.invariant-loop-j
invariant-loop-j g l = record {
  stepped : Stepped l.initial.seat false l.seat l.moved;
  fits : FitsLength (length (seen_of l.initial.seat)) l.cache;
  heard : (i : ℕ) → i < l.j-index → HoldsAt (WasHeard (seen_of l.initial.seat) (seen_of l.seat)) l.kernels (get_or l.share i 0);
}
