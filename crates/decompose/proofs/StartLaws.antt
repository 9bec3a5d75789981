-- The start of a program: its bounds are in range, and its points are the extended assignments.
use Rattle.std.proofs.Common.{◌≡◌, ◌↔◌, ℕ, zero, suc, ℤ, pos, ◌<◌, ◌≤ℤ◌, Bool, true, false, cond, List, [], ◌∷◌, ◌++◌, length, map, flat_map, refl, sym, ap, subst, ◌∙◌, arith, lit≤, length-append}
use Rattle.std.specs.List.{All}
use Rattle.std.specs.Ordering.{int_eq}
use Rattle.std.proofs.lemmas.Int.{ints}
use Rattle.std.proofs.lemmas.List.{length-map}
use Rattle.std.proofs.lemmas.List.Elements.{All-nil, All-cons, All-head, All-tail, All-append}
use Rattle.interval.specs.Limits.{IsBound, IsNumber, bound_limit, largest_number, box_limit}
use Rattle.interval.specs.Boxes.{Bounds, low_of, high_of, IsInRange, IsInside}
use Rattle.constraint_model.specs.declared.model.Term.{Term}
use Rattle.constraint_model.specs.declared.model.VarDecl.{VarDecl}
use Rattle.constraint_model.specs.declared.model.Constraint.{Constraint}
use Rattle.constraint_model.specs.declared.model.Goal.{Goal}
use Rattle.constraint_model.specs.declared.model.FznModel.{FznModel}
use Rattle.constraint_model.specs.declared.meanings.Scalar.{Scalar}
use Rattle.constraint_model.specs.declared.meanings.Meaning.{Meaning}
use Rattle.constraint_model.specs.declared.table.Letter.{Letter}
use Rattle.constraint_model.specs.Numbers.{IsInProfile}
use Rattle.constraint_model.specs.Fits.{constant_of, constants_of_operand, constants_at, constants_in, letters_of, operand_of, constraint_on, takes_variables}
use Rattle.constraint_model.specs.Fits.{goal_constants}
use Rattle.constraint_model.specs.Relations.{IsWithin}
use Rattle.constraint_model.specs.WellFormed.{IsTermOf, IsScalarOf, IsMeaningOf, IsConstraintOf, IsGoalOf, IsDeclaration, IsWellFormed, constants_of}
use Rattle.decompose.specs.Program.{fixed_box, start_pairs, start_of, extended, Extends}
use Rattle.decompose.proofs.OneKernel.{profile_number}
use Rattle.decompose.proofs.Means.{IsAmong, HasConstants, size_of}
use Rattle.decompose.proofs.ConstantLaws.{among_more, among_after, fold_has, all_fold}

-- ---- the constants

module _ (vars : List VarDecl) where
  term_numbers : (b : Bool) (t : Term) → IsTermOf vars b t → All IsInProfile (constant_of t)
  term_numbers b (Term.Var v) h = All-nil IsInProfile
  term_numbers b (Term.Number n) h = by (int_eq n (pos 1))
    where
      by : (t : Bool) → All IsInProfile (cond t [] (n ∷ []))
      by true = All-nil IsInProfile
      by false = All-cons IsInProfile n [] h.0 (All-nil IsInProfile)

  row_numbers : (es : List Scalar) → All (IsScalarOf vars) es → All IsInProfile (flat_map constant_of (map (λ s. s.term) es))
  row_numbers [] h = All-nil IsInProfile
  row_numbers (e ∷ es) h =
      All-append IsInProfile (constant_of e.term) (flat_map constant_of (map (λ s. s.term) es))
      (term_numbers e.is_bool e.term (All-head (IsScalarOf vars) e es h)) (row_numbers es (All-tail (IsScalarOf vars) e es h))

  meaning_numbers : (m : Meaning) → IsMeaningOf vars m → All IsInProfile (constants_of_operand (operand_of m))
  meaning_numbers (Meaning.One s) h = term_numbers s.is_bool s.term h
  meaning_numbers (Meaning.Row array) h = row_numbers array.entries h.1
  meaning_numbers (Meaning.Set rs) h = All-nil IsInProfile

  some_numbers : (b : Bool) (ns : List ℤ) → All IsInProfile ns → All IsInProfile (cond b ns [])
  some_numbers true ns h = h
  some_numbers false ns h = All-nil IsInProfile

  argument_numbers : (ls : List Letter) (ms : List Meaning) → All (IsMeaningOf vars) ms → All IsInProfile (constants_at ls (map operand_of ms))
  argument_numbers [] ms h = All-nil IsInProfile
  argument_numbers (l ∷ ls) [] h = All-nil IsInProfile
  argument_numbers (l ∷ ls) (m ∷ ms) h =
      All-append IsInProfile (cond (takes_variables l) (constants_of_operand (operand_of m)) []) (constants_at ls (map operand_of ms))
      (some_numbers (takes_variables l) (constants_of_operand (operand_of m)) (meaning_numbers m (All-head (IsMeaningOf vars) m ms h)))
      (argument_numbers ls ms (All-tail (IsMeaningOf vars) m ms h))

  constraint_numbers : (c : Constraint) → IsConstraintOf vars c → All IsInProfile (constants_in c)
  unfolding constants_in
  constraint_numbers c h =
      subst (λ (d : Constraint). All IsInProfile (constants_at (letters_of d) d.operands)) (sym h.is_on)
      (argument_numbers (letters_of (constraint_on c.name h.meanings)) h.meanings h.each)

  all_numbers : (cs : List Constraint) → All (IsConstraintOf vars) cs → All IsInProfile (flat_map constants_in cs)
  all_numbers [] h = All-nil IsInProfile
  all_numbers (c ∷ cs) h =
      All-append IsInProfile (constants_in c) (flat_map constants_in cs)
      (constraint_numbers c (All-head (IsConstraintOf vars) c cs h)) (all_numbers cs (All-tail (IsConstraintOf vars) c cs h))

  goal_numbers : (g : Goal) → IsGoalOf vars g → All IsInProfile (goal_constants g)
  goal_numbers Goal.Satisfy h = All-nil IsInProfile
  goal_numbers (Goal.Minimize t) h = term_numbers false t h
  goal_numbers (Goal.Maximize t) h = term_numbers false t h

constants_in_profile : (model : FznModel) → IsWellFormed model → All IsInProfile (constants_of model)
constants_in_profile model f =
    all_fold IsInProfile (flat_map constants_in model.constraints ++ goal_constants model.goal) []
    (All-append IsInProfile (flat_map constants_in model.constraints) (goal_constants model.goal) (all_numbers model.vars model.constraints f.constraints) (goal_numbers model.vars model.goal f.objective))
    (All-nil IsInProfile)

-- each constraint finds its constants
all_there : (constants : List ℤ) (cs : List Constraint) → ((n : ℤ) → IsAmong n (flat_map constants_in cs) → IsAmong n constants) → All (HasConstants constants) cs
all_there constants [] h = All-nil (HasConstants constants)
all_there constants (c ∷ cs) h =
    All-cons (HasConstants constants) c cs (λ n g. h n (among_more n (constants_in c) (flat_map constants_in cs) g))
    (all_there constants cs (λ n g. h n (among_after n (constants_in c) (flat_map constants_in cs) g)))

pub constants_there : (model : FznModel) → All (HasConstants (constants_of model)) model.constraints
constants_there model =
    all_there (constants_of model) model.constraints
    (λ n g. fold_has n (flat_map constants_in model.constraints ++ goal_constants model.goal) [] (among_more n (flat_map constants_in model.constraints) (goal_constants model.goal) g))

-- ---- the bounds

abbrev AreNumbers : ℤ × ℤ → Type 0
AreNumbers p = IsNumber p.0 × IsNumber p.1

abbrev declared_pairs : List VarDecl → Bounds
declared_pairs vars = map (λ d. (d.low, d.high)) vars

declared_numbers : (vars : List VarDecl) → All IsDeclaration vars → All AreNumbers (declared_pairs vars)
declared_numbers [] h = All-nil AreNumbers
declared_numbers (d ∷ ds) h =
    let one = All-head IsDeclaration d ds h in
    All-cons AreNumbers (d.low, d.high) (declared_pairs ds) (profile_number d.low one.low, profile_number d.high one.high) (declared_numbers ds (All-tail IsDeclaration d ds h))

fixed_numbers : (xs : List ℤ) → All IsInProfile xs → All AreNumbers (fixed_box xs)
fixed_numbers [] h = All-nil AreNumbers
fixed_numbers (x ∷ xs) h =
    let one = profile_number x (All-head IsInProfile x xs h) in
    All-cons AreNumbers (x, x) (fixed_box xs) (one, one) (fixed_numbers xs (All-tail IsInProfile x xs h))

one_is_number : IsNumber (pos 1)
unfolding largest_number
one_is_number = lit≤ tt

start_numbers : (model : FznModel) → IsWellFormed model → All AreNumbers (start_of model)
start_numbers model f =
    All-cons AreNumbers (pos 1, pos 1) (declared_pairs model.vars ++ fixed_box (constants_of model)) (one_is_number, one_is_number)
    (All-append AreNumbers (declared_pairs model.vars) (fixed_box (constants_of model)) (declared_numbers model.vars f.vars) (fixed_numbers (constants_of model) (constants_in_profile model f)))

pub start_length : (vars : List VarDecl) (constants : List ℤ) → length (start_pairs vars constants) ≡ size_of vars constants
start_length vars constants =
    let a = length-append (declared_pairs vars) (fixed_box constants) in
    let b = length-map {B = ℤ × ℤ} vars (λ d. (d.low, d.high)) in
    let c = length-map {B = ℤ × ℤ} constants (λ z. (z, z)) in
    omega arith

number_bound : (z : ℤ) → IsNumber z → IsBound z
unfolding bound_limit
number_bound z h = omega arith

pub start_in_range : (model : FznModel) → IsWellFormed model → IsInRange (start_of model)
unfolding box_limit
start_in_range model f =
    let n = start_numbers model f in
    let l = start_length model.vars (constants_of model) in
    let v = f.vars_fit in
    let c = f.constants_fit in
    record {
      short = omega arith;
      lows = λ v h. number_bound (low_of (start_of model) v) (n v (pos 0, pos 0) h).0;
      highs = λ v h. number_bound (high_of (start_of model) v) (n v (pos 0, pos 0) h).1;
    }

-- ---- the points

inside_tail : (p q : ℤ × ℤ) (xs ys : Bounds) → IsInside (p ∷ xs) (q ∷ ys) → IsInside xs ys
inside_tail p q xs ys h =
    let same = h.same_length in
    record { same_length = omega arith; lows = λ v g. h.lows (suc v) (omega arith); highs = λ v g. h.highs (suc v) (omega arith) }

inside_cons : (p q : ℤ × ℤ) (xs ys : Bounds) → q.0 ≤ℤ p.0 → p.1 ≤ℤ q.1 → IsInside xs ys → IsInside (p ∷ xs) (q ∷ ys)
inside_cons p q xs ys low high h = record { same_length = ap suc h.same_length; lows = lows; highs = highs }
  where
    lows : (v : ℕ) → v < suc (length ys) → low_of (q ∷ ys) v ≤ℤ low_of (p ∷ xs) v
    lows zero g = low
    lows (suc v) g = h.lows v (omega arith)

    highs : (v : ℕ) → v < suc (length ys) → high_of (p ∷ xs) v ≤ℤ high_of (q ∷ ys) v
    highs zero g = high
    highs (suc v) g = h.highs v (omega arith)

none_inside : IsInside [] []
none_inside = record { same_length = refl; lows = λ v h. absurd (omega arith); highs = λ v h. absurd (omega arith) }

-- only the numbers themselves lie in a fixed box
fixed_inside : (xs cs : List ℤ) → IsInside (fixed_box xs) (fixed_box cs) → xs ≡ cs
fixed_inside [] [] h = refl
fixed_inside [] (c ∷ cs) h = absurd (let e = h.same_length in omega arith)
fixed_inside (x ∷ xs) [] h = absurd (let e = h.same_length in omega arith)
fixed_inside (x ∷ xs) (c ∷ cs) h =
    let low : c ≤ℤ x = h.lows 0 (omega arith) in
    let high : x ≤ℤ c = h.highs 0 (omega arith) in
    let one : x ≡ c = omega (arith, ints) in
    let rest = fixed_inside xs cs (inside_tail (x, x) (c, c) (fixed_box xs) (fixed_box cs) h) in
    cc

inside_itself : (xs : List ℤ) → IsInside (fixed_box xs) (fixed_box xs)
inside_itself [] = none_inside
inside_itself (x ∷ xs) = inside_cons (x, x) (x, x) (fixed_box xs) (fixed_box xs) (omega (arith, ints)) (omega (arith, ints)) (inside_itself xs)

module _ (constants : List ℤ) where
  -- the numbers of the declared variables, in front of the constants
  record IsFront (vars : List VarDecl) (numbers : List ℤ) : Type 0 where
    assignment : List ℤ
    within : IsWithin assignment vars
    is : numbers ≡ assignment ++ constants

  front_of : (vars : List VarDecl) (numbers : List ℤ) → IsInside (fixed_box numbers) (declared_pairs vars ++ fixed_box constants) → IsFront vars numbers
  front_of [] numbers h = record { assignment = []; within = tt; is = fixed_inside numbers constants h }
  front_of (d ∷ ds) [] h = absurd (let e = h.same_length in omega arith)
  front_of (d ∷ ds) (n ∷ ns) h =
      let rest = front_of ds ns (inside_tail (n, n) (d.low, d.high) (fixed_box ns) (declared_pairs ds ++ fixed_box constants) h) in
      record { assignment = n ∷ rest.assignment; within = (h.lows 0 (omega arith), h.highs 0 (omega arith), rest.within); is = ap (λ (xs : List ℤ). n ∷ xs) rest.is }

  front_inside : (vars : List VarDecl) (a : List ℤ) → IsWithin a vars → IsInside (fixed_box (a ++ constants)) (declared_pairs vars ++ fixed_box constants)
  front_inside [] [] h = inside_itself constants
  front_inside [] (z ∷ zs) h = absurd h
  front_inside (d ∷ ds) [] h = absurd h
  front_inside (d ∷ ds) (z ∷ zs) h = inside_cons (z, z) (d.low, d.high) (fixed_box (zs ++ constants)) (declared_pairs ds ++ fixed_box constants) h.0 h.1 (front_inside ds zs h.2)

pub start_points : (model : FznModel) (numbers : List ℤ) → IsInside (fixed_box numbers) (start_of model) ↔ Extends model numbers
start_points model numbers = (to numbers, λ x. subst (λ (ns : List ℤ). IsInside (fixed_box ns) (start_of model)) (sym x.is_extension) (back x.assignment x.within))
  where
    to : (ns : List ℤ) → IsInside (fixed_box ns) (start_of model) → Extends model ns
    to [] h = absurd (let e = h.same_length in omega arith)
    to (n ∷ ns) h =
        let low : pos 1 ≤ℤ n = h.lows 0 (omega arith) in
        let high : n ≤ℤ pos 1 = h.highs 0 (omega arith) in
        let one : n ≡ pos 1 = omega (arith, ints) in
        let rest = front_of (constants_of model) model.vars ns (inside_tail (n, n) (pos 1, pos 1) (fixed_box ns) (declared_pairs model.vars ++ fixed_box (constants_of model)) h) in
        record { assignment = rest.assignment; within = rest.within; is_extension = ap (λ (z : ℤ). z ∷ ns) one ∙ ap (λ (zs : List ℤ). pos 1 ∷ zs) rest.is }

    back : (a : List ℤ) → IsWithin a model.vars → IsInside (fixed_box (extended model a)) (start_of model)
    back a w =
        inside_cons (pos 1, pos 1) (pos 1, pos 1) (fixed_box (a ++ constants_of model)) (declared_pairs model.vars ++ fixed_box (constants_of model)) (omega (arith, ints)) (omega (arith, ints))
        (front_inside (constants_of model) model.vars a w)

-- each bound of the start is a number of the profile
pub start_bounds : (model : FznModel) → IsWellFormed model → (v : ℕ) → v < length (start_of model) → IsNumber (low_of (start_of model) v) × IsNumber (high_of (start_of model) v)
start_bounds model f v h = start_numbers model f v (pos 0, pos 0) h
