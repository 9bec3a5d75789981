use Rattle.std.proofs.Common.{◌≡◌, ◌-◌, ◌≤◌, true, vec_len}
use Rattle.fzn_io.specs.Streams.{Takes}
use Rattle.fzn_io.proofs.whole.read_all.Given as goal

-- `text` is what was taken so far
abbrev pub invariant-loop-text : goal.invariant-loop-text
invariant-loop-text g l =
    (vec_len l.piece ≡ 65536) × (vec_len l.text ≤ l.limit)
    × Takes (g.S.Source.left l.initial.source) (g.S.Source.left l.source) l.text.items
    × (g.S.Source.faults l.initial.source ≤ g.S.Source.faults l.source)
    × (g.S.Source.is_open l.source ≡ true)
    × (g.S.Source.held l.source ≡ g.S.Source.held l.initial.source)
    × (g.S.Source.names l.source ≡ g.S.Source.names l.initial.source)

abbrev pub decreases-loop-text : goal.decreases-loop-text
decreases-loop-text g l = l.limit - vec_len l.text
