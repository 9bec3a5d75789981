-- What the laws of the rows share: equivalences, the values of terms, a constraint's only kernel, and rows of numbers.
use Rattle.std.proofs.Common.{◌≡◌, ◌↔◌, ℕ, suc, ℤ, pos, ◌<◌, Bool, true, false, List, [], ◌∷◌, ◌++◌, length, map, refl, sym, ap, subst, ◌∙◌, arith}
use Rattle.std.specs.Prelude.{IsTrue}
use Rattle.std.specs.List.{All}
use Rattle.std.specs.Int.RustNames.{int_le}
use Rattle.std.proofs.lemmas.Int.{ints}
use Rattle.std.proofs.lemmas.List.Elements.{All-nil, All-cons, All-head, All-tail, All-map, All-weaker}
use Rattle.interval.specs.Limits.{IsNumber, largest_number}
use Rattle.guarded_tell.specs.declared.kernel.Kernel.{Kernel}
use Rattle.guarded_tell.specs.Words.{value_of, sign_true, AreVariables}
use Rattle.guarded_tell.specs.Kernels.{IsKernel, Holds as KernelHolds}
use Rattle.constraint_model.specs.declared.model.Term.{Term}
use Rattle.constraint_model.specs.declared.model.VarDecl.{VarDecl}
use Rattle.constraint_model.specs.declared.model.Constraint.{Constraint}
use Rattle.constraint_model.specs.declared.meanings.Scalar.{Scalar}
use Rattle.constraint_model.specs.declared.meanings.Meaning.{Meaning}
use Rattle.constraint_model.specs.declared.table.Letter.{Letter}
use Rattle.constraint_model.specs.declared.table.ConstraintName.{ConstraintName}
use Rattle.constraint_model.specs.Fits.{kernels_of}
use Rattle.constraint_model.specs.Numbers.{IsInProfile, largest}
use Rattle.constraint_model.specs.Relations.{value, Holds, IsWithin, IsTrueNumber}
use Rattle.decompose.specs.Program.{with_constants}
use Rattle.decompose.specs.Kernels.{variable_of, variables_of}
use Rattle.decompose.specs.Places.{numbering_of}
use Rattle.decompose.proofs.Means.{HasVariable, Means, MeansOne, RowMeans, size_of}
use Rattle.decompose.proofs.Served.{Law, IsServed, OneIs, at_integer, at_boolean, at_two, at_three}
use Rattle.decompose.proofs.ConstantLaws.{variable_inside, variable_value, variable_values}

-- ---- equivalences

pub iff_itself : {A : Type 0} → A ↔ A
iff_itself = (λ h. h, λ h. h)

pub iff_through : {A B C : Type 0} → (A ↔ B) → (B ↔ C) → A ↔ C
iff_through f g = (λ a. g.0 (f.0 a), λ c. f.1 (g.1 c))

-- both sides of an equivalence may be replaced
pub iff_both : {A B C D : Type 0} → (A ↔ C) → (B ↔ D) → (A ↔ B) ↔ (C ↔ D)
iff_both f g = (λ h. (λ c. g.0 (h.0 (f.1 c)), λ d. f.0 (h.1 (g.1 d))), λ h. (λ a. g.1 (h.0 (f.0 a)), λ b. f.1 (h.1 (g.0 b))))

pub iff_same : {X : Type 0} (R : X → Type 0) (x y : X) → x ≡ y → R x ↔ R y
iff_same R x y e = (λ h. subst R e h, λ h. subst R (sym e) h)

-- what is true exactly where a truth is
pub iff_true : {A B : Type 0} → A → (A ↔ B) ↔ B
iff_true a = (λ h. h.0 a, λ b. (λ x. b, λ y. a))

-- equal ends make equivalent equations
pub ends_same : {X : Type 0} (x y u v : X) → x ≡ u → y ≡ v → x ≡ y ↔ u ≡ v
ends_same x y u v e f = (λ h. sym e ∙ (h ∙ f), λ h. e ∙ (h ∙ sym f))

-- ---- lists of one and of two, and of two parts

pub all_one : {A : Type 0} (P : A → Type 0) (x : A) → All P (x ∷ []) ↔ P x
all_one P x = (λ h. All-head P x [] h, λ h. All-cons P x [] h (All-nil P))

pub all_two : {A : Type 0} (P : A → Type 0) (x y : A) → P x → P y → All P (x ∷ y ∷ [])
all_two P x y p q = All-cons P x (y ∷ []) p ((all_one P y).1 q)

pub all_parts : {A : Type 0} (P : A → Type 0) (xs ys : List A) → All P (xs ++ ys) → All P xs × All P ys
all_parts P [] ys h = (All-nil P, h)
all_parts P (x ∷ xs) ys h =
    let rest = all_parts P xs ys (All-tail P x (xs ++ ys) h) in
    (All-cons P x xs (All-head P x (xs ++ ys) h) rest.0, rest.1)

-- ---- numbers and assignments

pub profile_number : (z : ℤ) → IsInProfile z → IsNumber z
unfolding largest_number largest
profile_number z h = h

-- the positive literal of a boolean's variable is true exactly where the boolean is
pub positive_true : (z : ℤ) → IsTrue (int_le (pos 1) z) ↔ IsTrueNumber z
positive_true z = (λ h. omega (arith, ints), λ h. sym (let e : true ≡ int_le (pos 1) z = omega (arith, ints) in e))

-- an assignment within the bounds has a number for each variable
pub within_length : (a : List ℤ) (vars : List VarDecl) → IsWithin a vars → length a ≡ length vars
within_length [] [] h = refl
within_length [] (d ∷ ds) h = absurd h
within_length (z ∷ zs) [] h = absurd h
within_length (z ∷ zs) (d ∷ ds) h = ap suc (within_length zs ds h.2)

pub are_variables : (count : ℕ) (vs : List ℕ) → All (λ v. v < count) vs → AreVariables count vs
are_variables count vs h = record { each = λ i b. h i 0 b }

-- the letter of a term of this type
abbrev pub letter_of : Bool → Letter
letter_of true = Letter.Boolean
letter_of false = Letter.Integer

module _ (vars : List VarDecl) (constants : List ℤ) where
  abbrev Has : Term → Type 0
  Has t = HasVariable vars constants t

  -- ---- terms

  -- the variables of terms are the program's
  pub variables_inside : (terms : List Term) → All Has terms → All (λ v. v < size_of vars constants) (variables_of (numbering_of vars constants) terms)
  variables_inside terms h =
      All-map (λ v. v < size_of vars constants) (variable_of (numbering_of vars constants)) terms
      (All-weaker Has (λ t. variable_of (numbering_of vars constants) t < size_of vars constants) (variable_inside vars constants) terms h)

  pub one_more : (t : Term) (terms : List Term) → Has t → All Has terms → All Has (t ∷ terms)
  one_more t terms h hs = All-cons Has t terms h hs

  pub two_have : (x y : Term) → Has x → Has y → All Has (x ∷ y ∷ [])
  two_have x y hx hy = all_two Has x y hx hy

  pub three_have : (x y z : Term) → Has x → Has y → Has z → All Has (x ∷ y ∷ z ∷ [])
  three_have x y z hx hy hz = one_more x (y ∷ z ∷ []) hx (two_have y z hy hz)

  -- the value of a term's variable, and the values of terms' variables, are theirs
  module _ (a : List ℤ) (w : IsWithin a vars) where
    pub value_is : (t : Term) → Has t → value_of (with_constants constants a) (variable_of (numbering_of vars constants) t) ≡ value a t
    value_is t h = variable_value vars constants a (within_length a vars w) t h

    pub values_are : (ts : List Term) → All Has ts → map (value_of (with_constants constants a)) (variables_of (numbering_of vars constants) ts) ≡ map (value a) ts
    values_are ts h = variable_values vars constants a (within_length a vars w) ts h

    -- a literal of a term's variable, of either sign, says of the term's value what it says of numbers
    pub sign_means : (sign : Bool) (Q : ℤ → Type 0) → ((z : ℤ) → IsTrue (sign_true sign z) ↔ Q z) → (t : Term) → Has t
        → IsTrue (sign_true sign (value_of (with_constants constants a) (variable_of (numbering_of vars constants) t))) ↔ Q (value a t)
    sign_means sign Q sign_is t h = iff_through (sign_is _) (iff_same Q _ (value a t) (value_is t h))

  -- ---- one kernel

  -- the kernel that is all of a constraint's
  pub alone : {c : Constraint} {k : Kernel} → kernels_of c ≡ 1 → MeansOne vars constants (λ a. Holds c a) k → Means vars constants c (k ∷ [])
  alone {c} {k} e h = record {
    can_run = (all_one (IsKernel (size_of vars constants)) k).1 h.can_run;
    count = sym e;
    meaning = λ a w. iff_through (all_one (λ j. KernelHolds j (with_constants constants a)) k) (h.meaning a w);
  }

  -- the same kernel for a relation that holds where the first does
  pub same_meaning : (R S : List ℤ → Type 0) (k : Kernel) → MeansOne vars constants R k → ((a : List ℤ) → IsWithin a vars → R a ↔ S a) → MeansOne vars constants S k
  same_meaning R S k h e = record { can_run = h.can_run; meaning = λ a w. iff_through (h.meaning a w) (e a w) }

  -- ---- rows of terms of these types

  pub at_scalar : (b : Bool) (P : Meaning → Type 0) → ((s : Scalar) → OneIs vars constants b s → P (Meaning.One s)) → (m : Meaning) → IsServed vars constants (letter_of b) m → P m
  at_scalar true P f m h = at_boolean vars constants P f m h
  at_scalar false P f m h = at_integer vars constants P f m h

  -- two
  pub by_two : (name : ConstraintName) (b c : Bool)
      → ((x y : Scalar) → OneIs vars constants b x → OneIs vars constants c y → RowMeans vars constants name (Meaning.One x ∷ Meaning.One y ∷ []))
      → Law vars constants name (letter_of b ∷ letter_of c ∷ [])
  by_two name b c f ms h e =
      at_two vars constants (letter_of b) (letter_of c) (λ os. RowMeans vars constants name os)
      (λ m n hm hn.
      at_scalar b (λ o. RowMeans vars constants name (o ∷ n ∷ []))
      (λ x hx. at_scalar c (λ o. RowMeans vars constants name (Meaning.One x ∷ o ∷ [])) (λ y hy. f x y hx hy) n hn)
      m hm)
      ms h

  -- three
  pub by_three : (name : ConstraintName) (b c d : Bool)
      → ((x y z : Scalar) → OneIs vars constants b x → OneIs vars constants c y → OneIs vars constants d z → RowMeans vars constants name (Meaning.One x ∷ Meaning.One y ∷ Meaning.One z ∷ []))
      → Law vars constants name (letter_of b ∷ letter_of c ∷ letter_of d ∷ [])
  by_three name b c d f ms h e =
      at_three vars constants (letter_of b) (letter_of c) (letter_of d) (λ os. RowMeans vars constants name os)
      (λ m n o hm hn ho.
      at_scalar b (λ p. RowMeans vars constants name (p ∷ n ∷ o ∷ []))
      (λ x hx.
      at_scalar c (λ p. RowMeans vars constants name (Meaning.One x ∷ p ∷ o ∷ []))
      (λ y hy. at_scalar d (λ p. RowMeans vars constants name (Meaning.One x ∷ Meaning.One y ∷ p ∷ [])) (λ z hz. f x y z hx hy hz) o ho)
      n hn)
      m hm)
      ms h
