-- The one kernel of a sum, or of the greatest or the least of some, in its terms and in its variables.
use Rattle.std.proofs.Common.{◌≡◌, ℤ, List, [], ◌∷◌, refl}
use Rattle.guarded_tell.specs.Words.{Lit}
use Rattle.constraint_model.specs.declared.model.Term.{Term}
use Rattle.decompose.specs.Kernels.{variable_of, variables_of}
use Rattle.decompose.specs.Places.{Numbering}
use Rattle.decompose.specs.Rows.{sum_kernel, linear_kernel, extreme_kernel, extreme_on}
use Rattle.decompose.specs.declared.sums.Relation.{Relation}
use Rattle.decompose.specs.declared.terms.Extreme.{Extreme}

pub sum_kernel_is : (r : Relation) (n : Numbering) (l : Lit) (coefficients : List ℤ) (terms : List Term) (limit : ℤ) →
    sum_kernel r n l coefficients terms limit ≡ linear_kernel r l coefficients (variables_of n terms) limit ∷ []
sum_kernel_is Relation.AtMost n l coefficients terms limit = refl
sum_kernel_is Relation.Equal n l coefficients terms limit = refl

pub extreme_kernel_is : (e : Extreme) (n : Numbering) (m : Term) (terms : List Term) →
    extreme_kernel e n m terms ≡ extreme_on e (variable_of n m) (variables_of n terms) ∷ []
extreme_kernel_is Extreme.Greatest n m terms = refl
extreme_kernel_is Extreme.Least n m terms = refl
