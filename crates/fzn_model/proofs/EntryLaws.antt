-- What the entries of an array are alike in says whether they fit a type.
use Rattle.std.proofs.Common.{◌≡◌, List, [], ◌∷◌, Bool, true, false, ◌&&◌, ◌==◌, ℕ, refl, sym, ap, ◌∙◌, length, arith}
use Rattle.std.specs.List.{list_all}
use Rattle.std.proofs.lemmas.Bool.Decides.{nat_tests}
use Rattle.constraint_model.specs.declared.meanings.Scalar.{Scalar}
use Rattle.constraint_model.specs.Kinds.{is_constant, is_integer, is_boolean}
use Rattle.fzn_parser.specs.declared.tree.Shape.{Shape}
use Rattle.fzn_model.specs.Faults.{scalar_fits}

both : (a b c d : Bool) → ((a && b) && (c && d)) ≡ ((a && c) && (b && d))
both true true c d = refl
both true false true d = refl
both true false false d = refl
both false b c d = refl

pub booleans_fit : (ss : List Scalar) → list_all (scalar_fits Shape.Bool) ss ≡ (list_all is_boolean ss && list_all is_constant ss)
booleans_fit [] = refl
booleans_fit (s ∷ ss) = ap (λ b. (is_boolean s && is_constant s) && b) (booleans_fit ss) ∙ both (is_boolean s) (is_constant s) (list_all is_boolean ss) (list_all is_constant ss)

pub integers_fit : (ss : List Scalar) → list_all (scalar_fits Shape.Int) ss ≡ (list_all is_integer ss && list_all is_constant ss)
integers_fit [] = refl
integers_fit (s ∷ ss) = ap (λ b. (is_integer s && is_constant s) && b) (integers_fit ss) ∙ both (is_integer s) (is_constant s) (list_all is_integer ss) (list_all is_constant ss)

-- the answer of both tests, where the second is asked for if the first is met
pub then_fit : (x y whole b c : Bool) → whole ≡ (x && y) → b ≡ x → c ≡ y → b ≡ true → c ≡ whole
then_fit x y whole b c w e f h = f ∙ ap (λ (z : Bool). z && y) (sym (sym e ∙ h)) ∙ sym w

pub else_fit : (x y whole b : Bool) → whole ≡ (x && y) → b ≡ x → b ≡ false → b ≡ whole
else_fit x y whole b w e h = h ∙ ap (λ (z : Bool). z && y) (sym (sym e ∙ h)) ∙ sym w

pub bools : (shape : Shape) (ss : List Scalar) → shape ≡ Shape.Bool → list_all (scalar_fits shape) ss ≡ (list_all is_boolean ss && list_all is_constant ss)
bools shape ss e = ap (λ (s : Shape). list_all (scalar_fits s) ss) e ∙ booleans_fit ss

pub ints : (shape : Shape) (ss : List Scalar) → shape ≡ Shape.Int → list_all (scalar_fits shape) ss ≡ (list_all is_integer ss && list_all is_constant ss)
ints shape ss e = ap (λ (s : Shape). list_all (scalar_fits s) ss) e ∙ integers_fit ss

-- where no entry fits, there is none
pub none_fit : (shape : Shape) (ss : List Scalar) (n : ℕ) → n ≡ length ss → ((s : Scalar) → scalar_fits shape s ≡ false) → (n == 0) ≡ list_all (scalar_fits shape) ss
none_fit shape [] n e f = ap (λ (m : ℕ). m == 0) e
none_fit shape (s ∷ ss) n e f =
    let some : (n == 0) ≡ false = grind (arith, nat_tests, e) in
    some ∙ sym (ap (λ (b : Bool). b && list_all (scalar_fits shape) ss) (f s))
