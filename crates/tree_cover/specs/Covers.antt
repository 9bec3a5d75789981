-- Lists of parts that cover a tree.
use Rattle.std.specs.Prelude.{◌≡◌, ◌<◌, ◌≤◌, ◌^◌, ◌+◌, ◌*◌, ℕ, ℤ, List, [], ◌∷◌, ◌++◌, length, map, flat_map, drop, All, Some}
use Rattle.std.specs.List.{range_with_len, slice_get}
use Rattle.tree_cover.specs.declared.part.Part.{Part}

-- how a tree is cut: nowhere, or at its root, and then both halves
pub data Cuts : Type 0 where
  none : Cuts
  both : Cuts → Cuts → Cuts

abbrev pub part_at : ℕ → ℕ → Part
part_at depth number = record { depth = depth; number = number }

-- the parts into which that cuts what lies below a node, from left to right
abbrev pub parts_of : ℕ → ℕ → Cuts → List Part
parts_of depth number none = part_at depth number ∷ []
parts_of depth number (both left right) = parts_of (depth + 1) (2 * number) left ++ parts_of (depth + 1) (2 * number + 1) right

-- the depth is at most 62, and the number is one of that depth
pub record IsPart (part : Part) : Type 0 where
  pub depth : part.depth ≤ 62
  pub number : part.number < 2 ^ part.depth

-- these are the parts into which the tree is cut somehow
pub record AreCover (parts : List Part) : Type 0 where
  pub cuts : Cuts
  pub are : parts ≡ parts_of 0 0 cuts

-- the parts from there on are those into which what lies below a node is cut somehow, and others from `to` on
pub record IsCoverFrom (parts : List Part) (from depth number to : ℕ) : Type 0 where
  pub cuts : Cuts
  pub are : drop from parts ≡ parts_of depth number cuts ++ drop to parts
  pub inside : to ≤ length parts

abbrev pub IsNoCoverFrom : List Part → (from depth number : ℕ) → Type 0
IsNoCoverFrom parts from depth number = (cuts : Cuts) (rest : List Part) → drop from parts ≡ parts_of depth number cuts ++ rest → ⊥

-- where what is listed of a node is what is listed of its left part and then what is listed of its right one, what is listed of
-- the parts that cover the tree, one behind the other, is what is listed of the tree
abbrev pub JoinsLists : Type 0
JoinsLists = (listed : ℕ → ℕ → List (List ℤ)) → ((depth number : ℕ) → listed depth number ≡ listed (depth + 1) (2 * number) ++ listed (depth + 1) (2 * number + 1)) →
    (parts : List Part) → AreCover parts → flat_map (λ (part : Part). listed part.depth part.number) parts ≡ listed 0 0

-- all parts of one depth, the least number first
abbrev pub parts_to : ℕ → List Part
parts_to depth = map (part_at depth) (range_with_len 0 (2 ^ depth))

-- they cover the tree, and each stands at the place that is its number
pub record PartsTo : Type 0 where
  pub each : (depth : ℕ) → depth ≤ 62 → All IsPart (parts_to depth)
  pub cover : (depth : ℕ) → AreCover (parts_to depth)
  pub count : (depth : ℕ) → length (parts_to depth) ≡ 2 ^ depth
  pub numbered : (depth number : ℕ) → number < 2 ^ depth → slice_get (parts_to depth) number ≡ Some (part_at depth number)
