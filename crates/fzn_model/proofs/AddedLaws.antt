-- The constraints that declarations add are on arguments that fit, and the bounds of variables are in the profile.
use Rattle.std.proofs.Common.{◌≡◌, ℕ, List, [], ◌∷◌, map, Bool, true, false, not, Option, Some, None, refl, subst, arith, ℤ}
use Rattle.std.specs.Prelude.{fold}
use Rattle.std.specs.List.{AllByRecursion as Each, list_all}
use Rattle.std.specs.Option.{IfSome}
use Rattle.std.proofs.lemmas.Bool.{and_parts, not-true, false≢true}
use Rattle.std.proofs.lemmas.List.Elements.{All-from_recursion, recursion_from_All}
use Rattle.fzn_parser.specs.declared.tree.SetLit.{SetLit}
use Rattle.fzn_parser.specs.declared.tree.Shape.{Shape}
use Rattle.constraint_model.specs.declared.model.Term.{Term}
use Rattle.constraint_model.specs.declared.model.VarDecl.{VarDecl}
use Rattle.constraint_model.specs.declared.meanings.Scalar.{Scalar}
use Rattle.constraint_model.specs.declared.meanings.Meaning.{Meaning}
use Rattle.constraint_model.specs.Numbers.{largest, IsInProfile}
use Rattle.constraint_model.specs.Ranges.{Range, ranges_of}
use Rattle.fzn_model.specs.Scopes.{number_at, set_at}
use Rattle.constraint_model.specs.Fits.{row_for, is_constant}
use Rattle.fzn_model.specs.Effects.{hull, variable, declares_variable, is_bool_shape, membership, equality, domain_constraints, value_constraints, element_constraints, terms_in}
use Rattle.fzn_model.specs.Faults.{scalar_fits, fits_scalar_type, fits_array_type}
use Rattle.fzn_model.proofs.LeafLaws.{set_is_long, shape_is_long}
use Rattle.constraint_model.specs.WellFormed.{IsDeclaration, IsTermOf, IsScalarOf, IsMeaningOf, IsConstraintOf}
use Rattle.fzn_model.proofs.MeaningLaws.{SetLaws, Ends, opposite_in, zero_in, one_in, number_in_profile, numbers_each, ranges_each, set_meaning}

-- ---- bounds

last_in : (high : ℤ) (rs : List Range) → IsInProfile high → Each (Ends IsInProfile) rs → IsInProfile (fold (λ (h : ℤ) (s : Range). s.1) high rs)
last_in high [] h k = h
last_in high (r ∷ rs) h k = last_in r.1 rs k.0.1 k.1

hull_in : (rs : List Range) → Each (Ends IsInProfile) rs → Ends IsInProfile (hull rs)
hull_in [] k = (one_in, zero_in)
hull_in (r ∷ rs) k = (k.0.0, last_in r.1 rs k.0.1 k.1)

pub declaration : (text : List ℕ) (shape : Shape) (word : List ℕ) → declares_variable shape ≡ true → IsDeclaration (variable text shape word)
declaration text Shape.VarBool word d = record { low = zero_in; high = one_in; boolean = λ e. (refl, refl) }
declaration text Shape.VarInt word d = record { low = opposite_in largest (omega arith); high = omega arith; boolean = λ e. absurd (false≢true e) }
declaration text (Shape.VarIn (SetLit.Range low high)) word d = record { low = number_in_profile text low; high = number_in_profile text high; boolean = λ e. absurd (false≢true e) }
declaration text (Shape.VarIn (SetLit.Braces values)) word d =
    let numbers : List ℤ = map (number_at text) values in
    let ends = hull_in (ranges_of numbers) (ranges_each IsInProfile numbers (numbers_each text values)) in
    record { low = ends.0; high = ends.1; boolean = λ e. absurd (false≢true e) }
declaration text shape word d = absurd (false≢true d)

-- ---- sets and values

abbrev one : Bool → Term → Meaning
one is_bool t = Meaning.One (record { is_bool = is_bool; term = t })

in_set : (laws : SetLaws) (vars : List VarDecl) (text : List ℕ) (s : SetLit) (t : Term) → set_is_long s ≡ false → IsTermOf vars false t → IsConstraintOf vars (membership t (set_at text s))
unfolding row_for
in_set laws vars text s t l h =
    let both : List Meaning = one false t ∷ Meaning.Set (set_at text s) ∷ [] in
    record { meanings = both; is_on = refl; fits = refl; each = All-from_recursion (IsMeaningOf vars) both (h, (set_meaning laws vars text s l, tt)); short = refl }

equal : (vars : List VarDecl) (is_bool : Bool) (x t : Term) → IsTermOf vars is_bool x → IsTermOf vars is_bool t → IsConstraintOf vars (equality is_bool x t)
unfolding row_for
equal vars true x t h k =
    let both : List Meaning = one true x ∷ one true t ∷ [] in
    record { meanings = both; is_on = refl; fits = refl; each = All-from_recursion (IsMeaningOf vars) both (h, (k, tt)); short = refl }
equal vars false x t h k =
    let both : List Meaning = one false x ∷ one false t ∷ [] in
    record { meanings = both; is_on = refl; fits = refl; each = All-from_recursion (IsMeaningOf vars) both (h, (k, tt)); short = refl }

pub domain_fits : (laws : SetLaws) (vars : List VarDecl) (text : List ℕ) (shape : Shape) (x : Term) → shape_is_long shape ≡ false → IsTermOf vars (is_bool_shape shape) x → Each (IsConstraintOf vars) (domain_constraints text shape x)
domain_fits laws vars text (Shape.VarIn (SetLit.Braces values)) x l h = (in_set laws vars text (SetLit.Braces values) x l h, tt)
domain_fits laws vars text (Shape.VarIn (SetLit.Range low high)) x l h = tt
domain_fits laws vars text shape x l h = tt

-- a value of a type is a boolean exactly where the type is a boolean's
pub same_type : (shape : Shape) (s : Scalar) → scalar_fits shape s ≡ true → s.is_bool ≡ is_bool_shape shape
same_type Shape.Bool s e = (and_parts s.is_bool (is_constant s) e).0
same_type Shape.Int s e = not-true s.is_bool (and_parts (not s.is_bool) (is_constant s) e).0
same_type Shape.VarBool s e = e
same_type Shape.VarInt s e = not-true s.is_bool e
same_type (Shape.VarIn set) s e = not-true s.is_bool e
same_type shape s e = absurd (false≢true e)

pub value_equal : (vars : List VarDecl) (shape : Shape) (x : Term) (value : Option Meaning) → IsTermOf vars (is_bool_shape shape) x
    → IfSome value (IsMeaningOf vars) → IfSome value (λ m. fits_scalar_type shape m ≡ true) → Each (IsConstraintOf vars) (value_constraints shape x value)
value_equal vars shape x None h k f = tt
value_equal vars shape x (Some (Meaning.One s)) h k f = (equal vars (is_bool_shape shape) x s.term h (subst (λ b. IsTermOf vars b s.term) (same_type shape s f) k), tt)
value_equal vars shape x (Some (Meaning.Row array)) h k f = tt
value_equal vars shape x (Some (Meaning.Set ranges)) h k f = tt

-- ---- elements

entries_fit : (laws : SetLaws) (vars : List VarDecl) (text : List ℕ) (s : SetLit) (entries : List Scalar) → set_is_long s ≡ false → Each (IsScalarOf vars) entries → list_all (scalar_fits (Shape.VarIn s)) entries ≡ true
    → Each (IsConstraintOf vars) (map (λ t. membership t (set_at text s)) (map (λ (e : Scalar). e.term) entries))
entries_fit laws vars text s [] l h f = tt
entries_fit laws vars text s (e ∷ es) l h f =
    let parts = and_parts (scalar_fits (Shape.VarIn s) e) (list_all (scalar_fits (Shape.VarIn s)) es) f in
    (in_set laws vars text s e.term l (subst (λ b. IsTermOf vars b e.term) (not-true e.is_bool parts.0) h.0), entries_fit laws vars text s es l h.1 parts.1)

pub elements_fit : (laws : SetLaws) (vars : List VarDecl) (text : List ℕ) (shape : Shape) (value : Option Meaning) → shape_is_long shape ≡ false → IfSome value (IsMeaningOf vars) → IfSome value (λ m. fits_array_type shape m ≡ true)
    → Each (IsConstraintOf vars) (element_constraints text shape (terms_in value))
elements_fit laws vars text (Shape.VarIn s) None l h f = tt
elements_fit laws vars text (Shape.VarIn s) (Some (Meaning.One x)) l h f = tt
elements_fit laws vars text (Shape.VarIn s) (Some (Meaning.Set ranges)) l h f = tt
elements_fit laws vars text (Shape.VarIn s) (Some (Meaning.Row array)) l h f = entries_fit laws vars text s array.entries l (recursion_from_All (IsScalarOf vars) array.entries h.1) f
elements_fit laws vars text shape value l h f = tt
