-- The constraints of a well-formed model have arguments that are small enough, and each its number.
use Rattle.std.proofs.Common.{◌≡◌, ◌<◌, ℕ, zero, suc, Bool, List, [], ◌∷◌, length, get_or, sym, ap, subst, arith, Some, slice_get}
use Rattle.std.specs.Prelude.{All}
use Rattle.std.proofs.lemmas.List.{length-map}
use Rattle.std.proofs.lemmas.List.Elements.{All-map, All-weaker}
use Rattle.constraint_model.specs.declared.model.Term.{Term}
use Rattle.constraint_model.specs.declared.model.Constraint.{Constraint}
use Rattle.constraint_model.specs.declared.model.VarDecl.{VarDecl}
use Rattle.constraint_model.specs.declared.meanings.Meaning.{Meaning}
use Rattle.constraint_model.specs.declared.meanings.Scalar.{Scalar}
use Rattle.constraint_model.specs.Fits.{operand_of}
use Rattle.constraint_model.specs.WellFormed.{IsConstraintOf, IsMeaningOf, IsScalarOf, IsTermOf}
use Rattle.constraint_check.specs.Asked.{IsSmall, IsSmallTerm}

small_term : (vars : List VarDecl) (is_bool : Bool) (t : Term) → IsTermOf vars is_bool t → IsSmallTerm t
small_term vars is_bool (Term.Number n) h = h.0
small_term vars is_bool (Term.Var v) h = tt

small_meaning : (vars : List VarDecl) (m : Meaning) → IsMeaningOf vars m → IsSmall (operand_of m)
small_meaning vars (Meaning.One s) h = small_term vars s.is_bool s.term h
small_meaning vars (Meaning.Row array) h =
    let same = length-map array.entries (λ (s : Scalar). s.term) in
    let few = h.0 in
    record { few = omega arith; each = All-map IsSmallTerm (λ (s : Scalar). s.term) array.entries (All-weaker (IsScalarOf vars) (λ s. IsSmallTerm s.term) (λ s k. small_term vars s.is_bool s.term k) array.entries h.1) }
small_meaning vars (Meaning.Set ranges) h = tt

pub small_operands : (vars : List VarDecl) (c : Constraint) → IsConstraintOf vars c → All IsSmall c.operands
small_operands vars c h =
    subst (All IsSmall) (sym (ap (λ (x : Constraint). x.operands) h.is_on)) (All-map IsSmall operand_of h.meanings (All-weaker (IsMeaningOf vars) (λ m. IsSmall (operand_of m)) (small_meaning vars) h.meanings h.each))

-- the element at a place is the one that is got there
pub got : {X : Type 0} (xs : List X) (i : ℕ) (x : X) → i < length xs → x ≡ get_or xs i x → slice_get xs i ≡ Some x
got [] i x inside is = absurd (omega arith)
got (y ∷ ys) zero x inside is = ap Some (sym is)
got (y ∷ ys) (suc i) x inside is = got ys i x (omega arith) is
