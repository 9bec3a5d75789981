use Rattle.std.proofs.Common.{◌≡◌, ◌≤◌, ◌==◌, take}
use Rattle.std.specs.List.{count_by}
use Rattle.model_text.proofs.reader.line_ends.Given as goal

-- the ends of lines so far
abbrev pub invariant-loop-byte : goal.invariant-loop-byte
invariant-loop-byte l = (l.ends ≡ count_by (λ b. b == 10) (take l.byte-index l.bytes)) × (l.ends ≤ l.byte-index)
