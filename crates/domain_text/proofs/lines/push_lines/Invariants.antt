use Rattle.std.proofs.Common.{◌≡◌, ◌++◌, take}
use Rattle.std.specs.Prelude.{flat_map}
use Rattle.domain_text.specs.Domains.{domain_line}
use Rattle.domain_text.proofs.lines.push_lines.Given as goal

-- the lines of the outputs so far
abbrev pub invariant-loop-output : goal.invariant-loop-output
invariant-loop-output l = l.text.items ≡ l.initial.text.items ++ flat_map (domain_line l.mix) (take l.output-index l.outputs)
