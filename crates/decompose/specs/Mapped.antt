-- What represents declared arrays in a program whose variables are numbered so.
use Rattle.std.specs.Prelude.{◌≡◌, List, Some, map, All, slice_get}
use Rattle.constraint_model.specs.declared.model.Term.{Term}
use Rattle.decompose.specs.Kernels.{variables_of, number_of}
use Rattle.decompose.specs.Places.{Placing, AreFew}
use Rattle.decompose.specs.declared.mapped_lists.MappedList.{MappedList}

-- the list represents the declared array of its number: the variables are those of the array's terms, and the numbers are the
-- terms' own, with 0 for a variable
pub record IsMapped (placing : Placing) (list : MappedList) : Type 0 where
  pub terms : List Term
  pub declared : slice_get placing.arrays list.number ≡ Some terms
  pub variables : list.variables ≡ variables_of placing.numbering terms
  pub numbers : list.numbers ≡ map number_of terms

-- variables and constants are within the limits, and each list represents the array of its number
pub record ArePlaces (placing : Placing) (lists : List MappedList) : Type 0 where
  pub few : AreFew placing.numbering
  pub mapped : All (IsMapped placing) lists
