use Rattle.moved_set.specs.Parts.{AreLists, AreParts}
use Rattle.moved_set.proofs.parts.parts_of.Given as goal

abbrev pub invariant-loop-j : goal.invariant-loop-j
invariant-loop-j l = record {
  lists : AreLists l.count l.lists.items.items;
  parts : AreParts l.kernels l.j l.lists.items.items l.of_kernels.items;
}
