-- What expressions stand for is well-formed, where the declared names are and no list is too long; more variables change nothing.
use Rattle.std.proofs.Common.{◌≡◌, ℕ, zero, suc, ◌≤◌, List, [], ◌∷◌, ◌++◌, length, map, take, drop, Bool, true, false, cond, ◌&&◌, nat_lt, nat_le, Option, Some, None, refl, ap, ◌∙◌, inl, inr, arith, ℤ, pos, neg_ℤ, ◌+ℤ◌}
use Rattle.std.specs.Prelude.{if◌then◌else◌, find, option_map, option_and_then, option_to_list, unwrap_or, int_le, bytes_eq, codes}
use Rattle.std.specs.List.{AllByRecursion as Each, list_any}
use Rattle.std.specs.Option.{IfSome}
use Rattle.std.specs.Str.Parse.{digits_value, starts_with_minus}
use Rattle.std.proofs.lemmas.Bool.{and_parts, or_parts, leb-true, ltb-false, false≢true}
use Rattle.std.proofs.lemmas.List.{get_or_append_left, length-append, length-map}
use Rattle.std.proofs.lemmas.List.Elements.{All-weaker, All-from_recursion}
use Rattle.fzn_lexer.specs.declared.Token.{Token}
use Rattle.fzn_parser.specs.declared.tree.SetLit.{SetLit}
use Rattle.fzn_parser.specs.declared.tree.Elem.{Elem}
use Rattle.fzn_parser.specs.declared.tree.Expr.{Expr}
use Rattle.fzn_parser.specs.Texts.{spelling}
use Rattle.constraint_model.specs.declared.model.Term.{Term}
use Rattle.constraint_model.specs.declared.model.VarDecl.{VarDecl}
use Rattle.constraint_model.specs.declared.model.Constraint.{Constraint}
use Rattle.constraint_model.specs.declared.model.Output.{Output}
use Rattle.constraint_model.specs.declared.meanings.Scalar.{Scalar}
use Rattle.constraint_model.specs.declared.meanings.Meaning.{Meaning}
use Rattle.constraint_model.specs.Numbers.{largest, IsInProfile}
use Rattle.fzn_model.specs.Literals.{is_numeral, number_in, natural_of, number_of}
use Rattle.constraint_model.specs.Ranges.{Range, AreApart, insert_number, rising, ranges_on, ranges_of_rising, ranges_of, range_of, HaveRanges, IntervalsHold}
use Rattle.fzn_model.specs.Scopes.{Scope, meaning_of, sign_number, number_at, set_at, scalar_of, entry_at, all_some, array_literal, simple_at, expr_meaning, boolean, integer}
use Rattle.constraint_model.specs.Limits.{most_entries}
use Rattle.fzn_model.proofs.LeafLaws.{set_is_long, elem_is_long, expr_is_long}
use Rattle.constraint_model.specs.WellFormed.{IsVariable, IsTermOf, IsScalarOf, IsMeaningOf, IsConstraintOf, IsOutputOf}

-- ---- lists and options

pub each_append : {X : Type 0} (P : X → Type 0) (xs ys : List X) → Each P xs → Each P ys → Each P (xs ++ ys)
each_append P [] ys h k = k
each_append P (x ∷ xs) ys h k = (h.0, each_append P xs ys h.1 k)

pub each_weaker : {X : Type 0} (P Q : X → Type 0) → ((x : X) → P x → Q x) → (xs : List X) → Each P xs → Each Q xs
each_weaker P Q f [] h = tt
each_weaker P Q f (x ∷ xs) h = (f x h.0, each_weaker P Q f xs h.1)

pub each_option : {X : Type 0} (P : X → Type 0) (o : Option X) → IfSome o P → Each P (option_to_list o)
each_option P None h = tt
each_option P (Some x) h = (h, tt)

pub each_false : {X : Type 0} (p : X → Bool) (xs : List X) → list_any p xs ≡ false → Each (λ x. p x ≡ false) xs
each_false p [] e = tt
each_false p (x ∷ xs) e = let parts = or_parts (p x) (list_any p xs) e in (parts.0, each_false p xs parts.1)

pub mapped : {X Y : Type 0} (f : X → Y) (P : X → Type 0) (Q : Y → Type 0) → ((x : X) → P x → Q (f x)) → (o : Option X) → IfSome o P → IfSome (option_map f o) Q
mapped f P Q g None h = tt
mapped f P Q g (Some x) h = g x h

chosen : {X : Type 0} (P : X → Type 0) (b : Bool) (o p : Option X) → IfSome o P → IfSome p P → IfSome (cond b o p) P
chosen P true o p h k = h
chosen P false o p h k = k

-- ---- more variables

variable_stays : (vars more : List VarDecl) (is_bool : Bool) (place : ℕ) → IsVariable vars is_bool place → IsVariable (vars ++ more) is_bool place
variable_stays vars more is_bool place h = record {
  inside = omega (arith, length-append vars more, h.inside);
  same_type = λ d. ap (λ (x : VarDecl). x.is_bool) (get_or_append_left vars more d place h.inside) ∙ h.same_type d;
}

term_stays : (vars more : List VarDecl) (is_bool : Bool) (t : Term) → IsTermOf vars is_bool t → IsTermOf (vars ++ more) is_bool t
term_stays vars more is_bool (Term.Number n) h = h
term_stays vars more is_bool (Term.Var v) h = variable_stays vars more is_bool v h

scalar_stays : (vars more : List VarDecl) (s : Scalar) → IsScalarOf vars s → IsScalarOf (vars ++ more) s
scalar_stays vars more s h = term_stays vars more s.is_bool s.term h

pub meaning_stays : (vars more : List VarDecl) (m : Meaning) → IsMeaningOf vars m → IsMeaningOf (vars ++ more) m
meaning_stays vars more (Meaning.One s) h = scalar_stays vars more s h
meaning_stays vars more (Meaning.Row array) h = (h.0, All-weaker (IsScalarOf vars) (IsScalarOf (vars ++ more)) (scalar_stays vars more) array.entries h.1)
meaning_stays vars more (Meaning.Set ranges) h = h

pub constraint_stays : (vars more : List VarDecl) (c : Constraint) → IsConstraintOf vars c → IsConstraintOf (vars ++ more) c
constraint_stays vars more c h = record {
  meanings = h.meanings;
  is_on = h.is_on;
  fits = h.fits;
  each = All-weaker (IsMeaningOf vars) (IsMeaningOf (vars ++ more)) (meaning_stays vars more) h.meanings h.each;
  short = h.short;
}

pub output_stays : (vars more : List VarDecl) (o : Output) → IsOutputOf vars o → IsOutputOf (vars ++ more) o
output_stays vars more (Output.Scalar name is_bool value) h = term_stays vars more is_bool value h
output_stays vars more (Output.Array name is_bool ranges entries) h =
    (h.0, All-weaker (IsTermOf vars is_bool) (IsTermOf (vars ++ more) is_bool) (term_stays vars more is_bool) entries h.1, h.2, h.3, h.4)

-- ---- numbers

in_small : (base : ℕ) (s : List ℕ) → IfSome (number_in base s) (λ n. n ≤ largest)
unfolding number_in
in_small base s = by (is_numeral base s && nat_le (digits_value base s) largest) refl
  where
    by : (b : Bool) → (is_numeral base s && nat_le (digits_value base s) largest) ≡ b → IfSome (cond b (Some (digits_value base s)) None) (λ n. n ≤ largest)
    by true e = leb-true (digits_value base s) largest (and_parts (is_numeral base s) (nat_le (digits_value base s) largest) e).1
    by false e = tt

natural_small : (s : List ℕ) → IfSome (natural_of s) (λ n. n ≤ largest)
unfolding natural_of
natural_small s =
    let P : ℕ → Type 0 = λ n. n ≤ largest in
    let octal : Option ℕ = cond (bytes_eq (take 2 s) (codes "0o")) (number_in 8 (drop 2 s)) (number_in 10 s) in
    let on : IfSome octal P = chosen P (bytes_eq (take 2 s) (codes "0o")) (number_in 8 (drop 2 s)) (number_in 10 s) (in_small 8 (drop 2 s)) (in_small 10 s) in
    chosen P (bytes_eq (take 2 s) (codes "0x")) (number_in 16 (drop 2 s)) octal (in_small 16 (drop 2 s)) on

pub opposite_in : (n : ℕ) → n ≤ largest → IsInProfile (neg_ℤ (pos n))
opposite_in zero h = h
opposite_in (suc n) h = h

pub number_small : (s : List ℕ) → IfSome (number_of s) IsInProfile
unfolding number_of
number_small s = chosen IsInProfile (starts_with_minus s) (option_map (λ n. neg_ℤ (pos n)) (natural_of (drop 1 s))) (option_map pos (natural_of s))
    (mapped (λ n. neg_ℤ (pos n)) (λ n. n ≤ largest) IsInProfile opposite_in (natural_of (drop 1 s)) (natural_small (drop 1 s)))
    (mapped pos (λ n. n ≤ largest) IsInProfile (λ n h. h) (natural_of s) (natural_small s))

or_else : (P : ℤ → Type 0) (o : Option ℤ) (d : ℤ) → P d → IfSome o P → P (unwrap_or o d)
or_else P None d h k = h
or_else P (Some z) d h k = k

pub zero_in : IsInProfile (pos 0)
zero_in = omega arith

pub one_in : IsInProfile (pos 1)
unfolding largest
one_in = omega arith

sign_in : (s : List ℕ) → IsInProfile (sign_number s)
unfolding largest
sign_in s = by (starts_with_minus s)
  where
    by : (b : Bool) → IsInProfile (if b then neg_ℤ (pos 1) else pos 0)
    by true = omega arith
    by false = omega arith

pub number_in_profile : (text : List ℕ) (t : Token) → IsInProfile (number_at text t)
number_in_profile text t = or_else IsInProfile (number_of (spelling text t)) (sign_number (spelling text t)) (sign_in (spelling text t)) (number_small (spelling text t))

-- ---- sets

insert_length : (z : ℤ) (xs : List ℤ) → length (insert_number z xs) ≡ suc (length xs)
insert_length z [] = refl
insert_length z (x ∷ xs) = by (int_le z x) (insert_length z xs)
  where
    by : (b : Bool) → length (insert_number z xs) ≡ suc (length xs) → length (cond b (z ∷ x ∷ xs) (x ∷ insert_number z xs)) ≡ suc (suc (length xs))
    by true e = refl
    by false e = ap suc e

rising_length : (xs : List ℤ) → length (rising xs) ≡ length xs
rising_length [] = refl
rising_length (x ∷ xs) = insert_length x (rising xs) ∙ ap suc (rising_length xs)

on_length : (low high : ℤ) (zs : List ℤ) → length (ranges_on low high zs) ≤ suc (length zs)
on_length low high [] = omega arith
on_length low high (z ∷ zs) = by (on_length low z zs) (on_length z z zs) (int_le z (high +ℤ pos 1))
  where
    by : length (ranges_on low z zs) ≤ suc (length zs) → length (ranges_on z z zs) ≤ suc (length zs) → (b : Bool) → length (cond b (ranges_on low z zs) ((low, high) ∷ ranges_on z z zs)) ≤ suc (suc (length zs))
    by h k true = omega arith
    by h k false = omega arith

of_rising_length : (zs : List ℤ) → length (ranges_of_rising zs) ≤ length zs
unfolding ranges_of_rising
of_rising_length [] = omega arith
of_rising_length (z ∷ zs) = on_length z z zs

ranges_length : (numbers : List ℤ) → length (ranges_of numbers) ≤ length numbers
unfolding ranges_of
ranges_length numbers = omega (arith, of_rising_length (rising numbers), rising_length numbers)

-- both ends of a range
abbrev pub Ends : (ℤ → Type 0) → Range → Type 0
Ends P r = P r.0 × P r.1

insert_each : (P : ℤ → Type 0) (z : ℤ) (xs : List ℤ) → P z → Each P xs → Each P (insert_number z xs)
insert_each P z [] h k = (h, tt)
insert_each P z (x ∷ xs) h k = by (insert_each P z xs h k.1) (int_le z x)
  where
    by : Each P (insert_number z xs) → (b : Bool) → Each P (cond b (z ∷ x ∷ xs) (x ∷ insert_number z xs))
    by rest true = (h, k)
    by rest false = (k.0, rest)

rising_each : (P : ℤ → Type 0) (xs : List ℤ) → Each P xs → Each P (rising xs)
rising_each P [] h = tt
rising_each P (x ∷ xs) h = insert_each P x (rising xs) h.0 (rising_each P xs h.1)

on_each : (P : ℤ → Type 0) (low high : ℤ) (zs : List ℤ) → P low → P high → Each P zs → Each (Ends P) (ranges_on low high zs)
on_each P low high [] l m h = ((l, m), tt)
on_each P low high (z ∷ zs) l m h = by (on_each P low z zs l h.0 h.1) (on_each P z z zs h.0 h.0 h.1) (int_le z (high +ℤ pos 1))
  where
    by : Each (Ends P) (ranges_on low z zs) → Each (Ends P) (ranges_on z z zs) → (b : Bool) → Each (Ends P) (cond b (ranges_on low z zs) ((low, high) ∷ ranges_on z z zs))
    by on next true = on
    by on next false = ((l, m), next)

of_rising_each : (P : ℤ → Type 0) (zs : List ℤ) → Each P zs → Each (Ends P) (ranges_of_rising zs)
unfolding ranges_of_rising
of_rising_each P [] h = tt
of_rising_each P (z ∷ zs) h = on_each P z z zs h.0 h.0 h.1

pub ranges_each : (P : ℤ → Type 0) (numbers : List ℤ) → Each P numbers → Each (Ends P) (ranges_of numbers)
unfolding ranges_of
ranges_each P numbers h = of_rising_each P (rising numbers) (rising_each P numbers h)

pub numbers_each : (text : List ℕ) (values : List Token) → Each IsInProfile (map (number_at text) values)
numbers_each text [] = tt
numbers_each text (t ∷ ts) = (number_in_profile text t, numbers_each text ts)

-- what is known of ranges
abbrev pub SetLaws : Type 0
SetLaws = HaveRanges × IntervalsHold

interval_meaning : (laws : SetLaws) (vars : List VarDecl) (low high : ℤ) → IsInProfile low → IsInProfile high → IsMeaningOf vars (Meaning.Set (range_of low high))
interval_meaning laws vars low high l h = by (int_le low high) (laws.1 low high).0
  where
    by : (b : Bool) → AreApart (cond b ((low, high) ∷ []) []) → IsMeaningOf vars (Meaning.Set (cond b ((low, high) ∷ []) []))
    by true a = (omega arith, a, All-from_recursion (Ends IsInProfile) ((low, high) ∷ []) ((l, h), tt))
    by false a = (omega arith, a, All-from_recursion (Ends IsInProfile) [] tt)

pub set_meaning : (laws : SetLaws) (vars : List VarDecl) (text : List ℕ) (s : SetLit) → set_is_long s ≡ false → IsMeaningOf vars (Meaning.Set (set_at text s))
set_meaning laws vars text (SetLit.Range low high) e = interval_meaning laws vars (number_at text low) (number_at text high) (number_in_profile text low) (number_in_profile text high)
set_meaning laws vars text (SetLit.Braces values) e =
    let numbers : List ℤ = map (number_at text) values in
    let few : length values ≤ most_entries = ltb-false most_entries (length values) e in
    (omega (arith, ranges_length numbers, length-map values (number_at text), few), (laws.0 numbers).apart, All-from_recursion (Ends IsInProfile) (ranges_of numbers) (ranges_each IsInProfile numbers (numbers_each text values)))

-- ---- expressions

-- each declared name stands for something well-formed
abbrev pub AreNames : List VarDecl → Scope → Type 0
AreNames vars scope = Each (λ (e : List ℕ × Meaning). IsMeaningOf vars e.1) scope

pub found : (P : Meaning → Type 0) (scope : Scope) (name : List ℕ) → Each (λ (e : List ℕ × Meaning). P e.1) scope → IfSome (meaning_of scope name) P
found P [] name h = tt
found P (e ∷ es) name h = by (bytes_eq name e.0) (found P es name h.1)
  where
    by : (b : Bool) → IfSome (meaning_of es name) P → IfSome (option_map (λ (x : List ℕ × Meaning). x.1) (cond b (Some e) (find (λ (x : List ℕ × Meaning). bytes_eq name x.0) es))) P
    by true k = h.0
    by false k = k

boolean_one : (vars : List VarDecl) → IsScalarOf vars (boolean (pos 1))
boolean_one vars = (one_in, λ e. inr refl)

boolean_zero : (vars : List VarDecl) → IsScalarOf vars (boolean (pos 0))
boolean_zero vars = (zero_in, λ e. inl refl)

integer_scalar : (vars : List VarDecl) (n : ℤ) → IsInProfile n → IsScalarOf vars (integer n)
integer_scalar vars n h = (h, λ e. absurd (false≢true e))

scalar_in : (vars : List VarDecl) (o : Option Meaning) → IfSome o (IsMeaningOf vars) → IfSome (option_and_then scalar_of o) (IsScalarOf vars)
scalar_in vars None h = tt
scalar_in vars (Some (Meaning.One s)) h = h
scalar_in vars (Some (Meaning.Row array)) h = tt
scalar_in vars (Some (Meaning.Set ranges)) h = tt

entry_scalar : (vars : List VarDecl) (text : List ℕ) (scope : Scope) → AreNames vars scope → (e : Elem) → IfSome (entry_at text scope e) (IsScalarOf vars)
entry_scalar vars text scope h Elem.True = boolean_one vars
entry_scalar vars text scope h Elem.False = boolean_zero vars
entry_scalar vars text scope h (Elem.Int t) = integer_scalar vars (number_at text t) (number_in_profile text t)
entry_scalar vars text scope h (Elem.Float t) = tt
entry_scalar vars text scope h (Elem.Name t) = scalar_in vars (meaning_of scope (spelling text t)) (found (IsMeaningOf vars) scope (spelling text t) h)
entry_scalar vars text scope h (Elem.Set s) = tt

-- as many scalars as entries
abbrev AreEntries : List VarDecl → List Elem → List Scalar → Type 0
AreEntries vars es xs = (length xs ≡ length es) × Each (IsScalarOf vars) xs

entries_scalars : (vars : List VarDecl) (text : List ℕ) (scope : Scope) → AreNames vars scope → (es : List Elem) → IfSome (all_some (map (entry_at text scope) es)) (AreEntries vars es)
entries_scalars vars text scope h [] = (refl, tt)
entries_scalars vars text scope h (e ∷ es) = by (entry_at text scope e) (entry_scalar vars text scope h e) (entries_scalars vars text scope h es)
  where
    by : (o : Option Scalar) → IfSome o (IsScalarOf vars) → IfSome (all_some (map (entry_at text scope) es)) (AreEntries vars es) → IfSome (all_some (o ∷ map (entry_at text scope) es)) (AreEntries vars (e ∷ es))
    by None k rest = tt
    by (Some x) k rest = mapped (λ xs. x ∷ xs) (AreEntries vars es) (AreEntries vars (e ∷ es)) (λ xs m. (ap suc m.0, (k, m.1))) (all_some (map (entry_at text scope) es)) rest

simple_meaning : (laws : SetLaws) (vars : List VarDecl) (text : List ℕ) (scope : Scope) → AreNames vars scope → (e : Elem) → elem_is_long e ≡ false → IfSome (simple_at text scope e) (IsMeaningOf vars)
simple_meaning laws vars text scope h Elem.True l = boolean_one vars
simple_meaning laws vars text scope h Elem.False l = boolean_zero vars
simple_meaning laws vars text scope h (Elem.Int t) l = integer_scalar vars (number_at text t) (number_in_profile text t)
simple_meaning laws vars text scope h (Elem.Float t) l = tt
simple_meaning laws vars text scope h (Elem.Name t) l = found (IsMeaningOf vars) scope (spelling text t) h
simple_meaning laws vars text scope h (Elem.Set s) l = set_meaning laws vars text s l

pub meaning : (laws : SetLaws) (vars : List VarDecl) (text : List ℕ) (scope : Scope) → AreNames vars scope → (e : Expr) → expr_is_long e ≡ false → IfSome (expr_meaning text scope e) (IsMeaningOf vars)
unfolding expr_meaning
meaning laws vars text scope h (Expr.One e) l = simple_meaning laws vars text scope h e l
meaning laws vars text scope h (Expr.Row es) l =
    let few : length es ≤ most_entries = ltb-false most_entries (length es) (or_parts (nat_lt most_entries (length es)) (list_any elem_is_long es) l).0 in
    mapped array_literal (AreEntries vars es) (IsMeaningOf vars) (λ xs k. (omega (arith, few, k.0), All-from_recursion (IsScalarOf vars) xs k.1)) (all_some (map (entry_at text scope) es)) (entries_scalars vars text scope h es)
