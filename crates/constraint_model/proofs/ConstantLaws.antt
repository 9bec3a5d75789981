-- The constants of arguments, one argument on.
use Rattle.std.proofs.Common.{◌≡◌, ℕ, ◌+◌, ◌<◌, ◌≤◌, List, [], ◌∷◌, ◌++◌, length, get_or, drop, cond, fold, take, Bool, true, false, refl, ap, ◌∙◌, sym, subst, arith, ℤ}
use Rattle.std.specs.List.{list_any}
use Rattle.std.specs.Ordering.{int_eq}
use Rattle.std.proofs.lemmas.List.{at_drop_more, at_drop_all, take_all, take-take, take_at, length-take}
use Rattle.std.proofs.lemmas.List.Sums.{fold-append}
use Rattle.constraint_model.specs.declared.model.Operand.{Operand}
use Rattle.constraint_model.specs.declared.table.Letter.{Letter}
use Rattle.constraint_model.specs.Fits.{IsFront, add_once, constants_at, constants_of_operand, takes_variables}

-- what was found with the constants of the rest is what all give, and what was there stands in front
pub record Added (initial found all rest : List ℤ) : Type 0 where
  pub added : fold add_once found rest ≡ fold add_once initial all
  pub front : IsFront initial found

none_there : (letters : List Letter) → constants_at letters [] ≡ []
none_there [] = refl
none_there (l ∷ ls) = refl

pub constants_end : (letters : List Letter) (operands : List Operand) (i : ℕ) → length operands ≤ i → constants_at (drop i letters) (drop i operands) ≡ []
constants_end letters operands i h = at_drop_all (constants_at (drop i letters)) operands i h ∙ none_there (drop i letters)

pub constants_done : (letters : List Letter) (operands : List Operand) (i : ℕ) → length letters ≤ i → constants_at (drop i letters) (drop i operands) ≡ []
constants_done letters operands i h = at_drop_all (λ ls. constants_at ls (drop i operands)) letters i h

pub constants_step : (letters : List Letter) (operands : List Operand) (i : ℕ) (d : Letter) (e : Operand) → i < length letters → i < length operands
    → constants_at (drop i letters) (drop i operands) ≡ cond (takes_variables (get_or letters i d)) (constants_of_operand (get_or operands i e)) [] ++ constants_at (drop (i + 1) letters) (drop (i + 1) operands)
constants_step letters operands i d e h k =
    at_drop_more (λ ls. constants_at ls (drop i operands)) letters i d h
    ∙ at_drop_more (λ os. constants_at (get_or letters i d ∷ drop (i + 1) letters) os) operands i e k

-- what was found, with an argument's constants and then those of the rest
pub found_step : (letters : List Letter) (operands : List Operand) (i : ℕ) (d : Letter) (e : Operand) (a b : List ℤ) → i < length letters → i < length operands
    → b ≡ fold add_once a (cond (takes_variables (get_or letters i d)) (constants_of_operand (get_or operands i e)) [])
    → fold add_once a (constants_at (drop i letters) (drop i operands)) ≡ fold add_once b (constants_at (drop (i + 1) letters) (drop (i + 1) operands))
found_step letters operands i d e a b h k same =
    ap (fold add_once a) (constants_step letters operands i d e h k)
    ∙ fold-append add_once a (cond (takes_variables (get_or letters i d)) (constants_of_operand (get_or operands i e)) []) (constants_at (drop (i + 1) letters) (drop (i + 1) operands))
    ∙ ap (λ c. fold add_once c (constants_at (drop (i + 1) letters) (drop (i + 1) operands))) (sym same)

pub ruleset constants_laws = (constants_end, constants_done, found_step)

-- ---- what was found stays at the front

length_front : (xs ys : List ℤ) → IsFront xs ys → length xs ≤ length ys
length_front xs ys h = omega (arith, ap length h, length-take (length xs) ys)

pub front_same : (xs ys : List ℤ) → ys ≡ xs → IsFront xs ys
front_same xs ys e = subst (λ zs. IsFront xs zs) (sym e) (take_all (length xs) xs (omega arith))

pub front_through : (xs ys zs : List ℤ) → IsFront xs ys → IsFront ys zs → IsFront xs zs
front_through xs ys zs h k =
    sym (take-take (length xs) (length ys) zs (length_front xs ys h)) ∙ ap (take (length xs)) k ∙ h

once_front : (xs : List ℤ) (n : ℤ) → IsFront xs (add_once xs n)
once_front xs n = by (list_any (int_eq n) xs)
  where
    by : (b : Bool) → IsFront xs (cond b xs (xs ++ n ∷ []))
    by true = front_same xs xs refl
    by false = take_at xs (n ∷ []) (length xs) refl

pub fold_front : (xs ns : List ℤ) → IsFront xs (fold add_once xs ns)
fold_front xs [] = front_same xs xs refl
fold_front xs (n ∷ ns) = front_through xs (add_once xs n) (fold add_once (add_once xs n) ns) (once_front xs n) (fold_front (add_once xs n) ns)

-- more was found
pub front_found : (xs ys zs ns : List ℤ) → IsFront xs ys → zs ≡ fold add_once ys ns → IsFront xs zs
front_found xs ys zs ns h e = front_through xs ys zs h (subst (λ z. IsFront ys z) (sym e) (fold_front ys ns))

pub ruleset front_laws = (front_same, front_through, front_found)
