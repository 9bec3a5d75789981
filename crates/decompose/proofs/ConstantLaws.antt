-- Constants, and the values of the variables that stand for terms.
use Rattle.std.proofs.Common.{◌≡◌, ◌≢◌, suc, ℤ, pos, ◌+◌, ◌<◌, Bool, true, false, cond, not, ◌||◌, List, [], ◌∷◌, ◌++◌, length, map, fold, refl, sym, ap, subst, ◌∙◌, arith}
use Rattle.std.specs.List.{All, list_any, position_or_len}
use Rattle.std.specs.Ordering.{int_eq}
use Rattle.std.proofs.lemmas.Bool.{or_left, or_right}
use Rattle.std.proofs.lemmas.Bool.Decides.{Decides-int_eq}
use Rattle.std.proofs.lemmas.List.{get_or_append_left, get_or-append-add}
use Rattle.std.proofs.lemmas.List.Folds.{list_any-append}
use Rattle.std.proofs.lemmas.List.Sums.{passes_at_first}
use Rattle.std.proofs.lemmas.List.Elements.{All-head, All-tail, All-push}
use Rattle.guarded_tell.specs.Words.{value_of}
use Rattle.constraint_model.specs.declared.model.Term.{Term}
use Rattle.constraint_model.specs.declared.model.VarDecl.{VarDecl}
use Rattle.constraint_model.specs.Fits.{add_once}
use Rattle.constraint_model.specs.Relations.{value}
use Rattle.decompose.specs.Program.{with_constants}
use Rattle.decompose.specs.Kernels.{variable_of}
use Rattle.decompose.specs.Places.{numbering_of}
use Rattle.decompose.proofs.Means.{IsAmong, HasVariable, size_of}

int_eq-same : (n : ℤ) → int_eq n n ≡ true
int_eq-same n = (Decides-int_eq n n).1 refl

pub among_more : (n : ℤ) (xs ys : List ℤ) → IsAmong n xs → IsAmong n (xs ++ ys)
among_more n xs ys h = list_any-append (int_eq n) xs ys ∙ or_left _ _ h

pub among_after : (n : ℤ) (xs ys : List ℤ) → IsAmong n ys → IsAmong n (xs ++ ys)
among_after n xs ys h = list_any-append (int_eq n) xs ys ∙ or_right _ _ h

among_last : (n : ℤ) (xs : List ℤ) → IsAmong n (xs ++ n ∷ [])
among_last n xs = among_after n xs (n ∷ []) (or_left _ _ (int_eq-same n))

-- adding a number keeps the others, and has it
add_keeps : (m n : ℤ) (xs : List ℤ) → IsAmong m xs → IsAmong m (add_once xs n)
add_keeps m n xs h = by (list_any (int_eq n) xs)
  where
    by : (b : Bool) → IsAmong m (cond b xs (xs ++ n ∷ []))
    by true = h
    by false = among_more m xs (n ∷ []) h

add_has : (n : ℤ) (xs : List ℤ) → IsAmong n (add_once xs n)
add_has n xs = by (list_any (int_eq n) xs) refl
  where
    by : (b : Bool) → list_any (int_eq n) xs ≡ b → IsAmong n (cond b xs (xs ++ n ∷ []))
    by true e = e
    by false e = among_last n xs

fold_keeps : (m : ℤ) (ns xs : List ℤ) → IsAmong m xs → IsAmong m (fold add_once xs ns)
fold_keeps m [] xs h = h
fold_keeps m (n ∷ ns) xs h = fold_keeps m ns (add_once xs n) (add_keeps m n xs h)

-- the numbers that were added are there
pub fold_has : (m : ℤ) (ns xs : List ℤ) → IsAmong m ns → IsAmong m (fold add_once xs ns)
fold_has m [] xs h = absurd (let e : false ≡ true = h in cc)
fold_has m (n ∷ ns) xs h = by (int_eq m n) refl h (fold_has m ns (add_once xs n))
  where
    by : (b : Bool) → int_eq m n ≡ b → (b || list_any (int_eq m) ns) ≡ true → (IsAmong m ns → IsAmong m (fold add_once (add_once xs n) ns)) → IsAmong m (fold add_once (add_once xs n) ns)
    by true e g rest = fold_keeps m ns (add_once xs n) (subst (λ (k : ℤ). IsAmong m (add_once xs k)) ((Decides-int_eq m n).0 e) (add_has m xs))
    by false e g rest = rest g

all_add : (P : ℤ → Type 0) (n : ℤ) (xs : List ℤ) → P n → All P xs → All P (add_once xs n)
all_add P n xs p h = by (list_any (int_eq n) xs)
  where
    by : (b : Bool) → All P (cond b xs (xs ++ n ∷ []))
    by true = h
    by false = All-push P xs n h p

pub all_fold : (P : ℤ → Type 0) (ns xs : List ℤ) → All P ns → All P xs → All P (fold add_once xs ns)
all_fold P [] xs p h = h
all_fold P (n ∷ ns) xs p h = all_fold P ns (add_once xs n) (All-tail P n ns p) (all_add P n xs (All-head P n ns p) h)

-- the number of a term is its constant, where it is one other than 1
pub constant_here : (n : ℤ) (b : Bool) → int_eq n (pos 1) ≡ b → n ≢ pos 1 → IsAmong n (cond b [] (n ∷ []))
constant_here n true e ne = absurd (ne ((Decides-int_eq n (pos 1)).0 e))
constant_here n false e ne = or_left _ _ (int_eq-same n)

place_of : (n : ℤ) (xs : List ℤ) → IsAmong n xs → position_or_len (int_eq n) xs < length xs
place_of n [] h = absurd (let e : false ≡ true = h in cc)
place_of n (x ∷ xs) h = by (int_eq n x) h (place_of n xs)
  where
    by : (b : Bool) → (b || list_any (int_eq n) xs) ≡ true → (IsAmong n xs → position_or_len (int_eq n) xs < length xs) → cond (not b) (1 + position_or_len (int_eq n) xs) 0 < suc (length xs)
    by true g rest = omega arith
    by false g rest = omega (arith, rest g)

at_place : (n : ℤ) (xs : List ℤ) → IsAmong n xs → value_of xs (position_or_len (int_eq n) xs) ≡ n
at_place n xs h = sym ((Decides-int_eq n (value_of xs (position_or_len (int_eq n) xs))).0 (passes_at_first (int_eq n) xs (pos 0) (place_of n xs h)))

not_one : (n : ℤ) → int_eq n (pos 1) ≡ false → n ≢ pos 1
not_one n e g = let x : true ≡ false = sym (subst (λ (k : ℤ). int_eq n k ≡ true) g (int_eq-same n)) ∙ e in cc

-- a term's variable is one of the program's, and has the term's value
module _ (vars : List VarDecl) (constants : List ℤ) where
  pub variable_inside : (t : Term) → HasVariable vars constants t → variable_of (numbering_of vars constants) t < size_of vars constants
  variable_inside (Term.Var v) h = omega arith
  variable_inside (Term.Number n) h = by (int_eq n (pos 1)) refl
    where
      by : (b : Bool) → int_eq n (pos 1) ≡ b → cond b 0 (suc (length vars + position_or_len (int_eq n) constants)) < suc (length vars + length constants)
      by true e = omega arith
      by false e = omega (arith, place_of n constants (h (not_one n e)))

  module _ (a : List ℤ) (same : length a ≡ length vars) where
    pub variable_value : (t : Term) → HasVariable vars constants t → value_of (with_constants constants a) (variable_of (numbering_of vars constants) t) ≡ value a t
    variable_value (Term.Var v) h = get_or_append_left a constants (pos 0) v (omega arith)
    variable_value (Term.Number n) h = by (int_eq n (pos 1)) refl
      where
        by : (b : Bool) → int_eq n (pos 1) ≡ b → value_of (pos 1 ∷ (a ++ constants)) (cond b 0 (suc (length vars + position_or_len (int_eq n) constants))) ≡ n
        by true e = sym ((Decides-int_eq n (pos 1)).0 e)
        by false e =
            ap (λ k. value_of (a ++ constants) (k + position_or_len (int_eq n) constants)) (sym same)
            ∙ get_or-append-add a constants (position_or_len (int_eq n) constants) (pos 0)
            ∙ at_place n constants (h (not_one n e))

    pub variable_values : (ts : List Term) → All (HasVariable vars constants) ts →
        map (value_of (with_constants constants a)) (map (variable_of (numbering_of vars constants)) ts) ≡ map (value a) ts
    variable_values [] h = refl
    variable_values (t ∷ ts) h =
        let one = variable_value t (All-head (HasVariable vars constants) t ts h) in
        let rest = variable_values ts (All-tail (HasVariable vars constants) t ts h) in
        cc
