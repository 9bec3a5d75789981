use Rattle.std.proofs.Common.{◌≤◌, take, All}
use Rattle.tree_cover.specs.declared.part.Part.{Part}
use Rattle.tree_cover.specs.Covers.{IsPart}
use Rattle.tree_cutter.proofs.plan.are_parts.Given as goal

abbrev pub invariant-loop-part : goal.invariant-loop-part
invariant-loop-part l = All IsPart (take l.part-index l.parts) × All (λ (part : Part). part.depth ≤ l.deepest) (take l.part-index l.parts)
