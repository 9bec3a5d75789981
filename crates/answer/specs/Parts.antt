-- The parts of the search tree that are searched, each by itself.
use Rattle.std.specs.Prelude.{◌≡◌, ◌≤◌, List, [], ◌∷◌, length, All}
use Rattle.tree_cover.specs.declared.part.Part.{Part}
use Rattle.tree_cover.specs.Covers.{part_at, IsPart, AreCover, parts_to}
use Rattle.answer.specs.declared.options.Options.{Options}
use Rattle.answer.specs.Answers.{HasLimit}

-- parts of the tree that cover it
pub record AreParts (parts : List Part) : Type 0 where
  pub each : All IsPart parts
  pub cover : AreCover parts

-- the one part that is the whole tree
abbrev pub whole_tree : List Part
whole_tree = part_at 0 0 ∷ []

-- They cover the tree, however it is cut, so that an answer that no limit stopped doesn't depend on it. What a limit stops does:
-- where one is set they are all those of the depth that is asked for.
pub record ArePartsFor (options : Options) (parts : List Part) : Type 0 where
  pub are : AreParts parts
  pub few : length parts ≤ 65536
  pub limited : HasLimit options → parts ≡ parts_to options.depth
