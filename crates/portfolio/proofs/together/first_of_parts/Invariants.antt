use Rattle.std.proofs.Common.{ℤ, List}
use Rattle.std.specs.List.{AllZip}
use Rattle.portfolio.specs.Told.{TellsFirst}
use Rattle.portfolio.proofs.TogetherLaws.{IsLeft}
use Rattle.portfolio.proofs.together.first_of_parts.Given as goal

-- what is left tells the first
abbrev pub invariant-loop-part : goal.invariant-loop-part
invariant-loop-part l = (lists : List (List (List ℤ))) → AllZip TellsFirst lists l.fn.told.items → IsLeft lists l.part-iterator.rest.items
